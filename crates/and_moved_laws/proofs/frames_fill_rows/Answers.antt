use Rattle.and_moved_laws.proofs.Tiling
use Rattle.and_moved_laws.proofs.frames_fill_rows.Goals as goal

pub returns-clause-some : goal.returns-clause-some
returns-clause-some c = λ P rs t made. Tiling.some_frames P rs t made

pub returns-clause-tree : goal.returns-clause-tree
returns-clause-tree c = λ P rs t frames made all. Tiling.tree_filled P rs t made frames all

pub returns-clause-goals : goal.returns-clause-goals
returns-clause-goals c = λ P rs row kept t frames f own k all h. Tiling.goal_framed P own rs row kept t k frames all f h

pub returns-clause-behind : goal.returns-clause-behind
returns-clause-behind c = λ frames words weight fill some. Tiling.fill_more 0 frames words weight fill some
