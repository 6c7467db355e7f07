use denote.Exit.{yes}
use denote.Param.{param}
use denote.Param.Send.{param_send, arg_send}
use Rattle.std.proofs.Common.{◌≡◌, length, ◌∙◌, arith}
use Rattle.and_teams.proofs.Beginning.{if_ok_both}
use Rattle.and_teams.proofs.Mapping.{all_called}
use Rattle.and_teams.proofs.Sending.{beginning_send, worked_send}
use Rattle.and_teams.proofs.exploring.work_by_teams.Goals as goal

pub returns : goal.returns
returns g c =
    let made = c.in_ok-beginnings.ensures.fresh in
    let teams = c.in_ok-beginnings.beginnings in
    if_ok_both c.map_vec.result _ _ _ c.map_vec.ensures.len c.map_vec.ensures.each (λ all long gives.
    let as_many : length all.items ≡ length teams.items = omega (arith, long, all.ok.0, teams.ok.0) in (
      all_called _ _ g.N.Naming.program.program c.args.shared.now.tree.now teams.items all.items made.0 as_many gives (λ t w r. r.met),
      as_many ∙ made.1,
    ))

pub map_vec-requires-send-J : goal.map_vec-requires-send-J
map_vec-requires-send-J g c κs within = param_send 1 _ (arg_send _ yes _ (beginning_send (param 0 g.row.N) g.N.Naming c.type_bounds.send-N))

pub map_vec-requires-send-X : goal.map_vec-requires-send-X
map_vec-requires-send-X g c κs within = param_send 2 _ (arg_send _ yes _ (worked_send (param 0 g.row.N) g.N.Naming c.type_bounds.send-N))
