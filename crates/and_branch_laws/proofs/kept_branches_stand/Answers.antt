use Rattle.and_branch_laws.proofs.Going
use Rattle.and_branch_laws.proofs.kept_branches_stand.Goals as goal

pub returns-clause-kept : goal.returns-clause-kept
returns-clause-kept c = λ P limit key v t loaded x reached of_limit of_key. Going.kept_branches_stand P loaded limit key v t x reached
    of_limit of_key

pub returns-clause-failed : goal.returns-clause-failed
returns-clause-failed c = λ P limit key v t made reached dead used of_limit of_key marked. Going.failed_branches_stand P limit key v t
    made reached dead used of_limit of_key marked
