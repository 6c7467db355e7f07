use Rattle.std.proofs.Common.{◌∙◌, slice_get, ap, sym, refl}
use Rattle.and_overlay.proofs.PlaceLemmas.{at_slot}
use Rattle.and_overlay.proofs.scratch.Scratch.value_at.Goals as goal

pub returns-in-Some-clause-some : goal.returns-in-Some-clause-some
returns-in-Some-clause-some g c =
    let now = c.args.self.now in
    let found = c.index.result.now in
    let at = at_slot (λ s. s.place) now.settings.items c.in-Some.slot c.args.place found
    (ap (λ ps. slice_get ps c.in-Some.slot) now.settings_stand ∙ c.in-Some.ensures.some) in
    (found, (c.in-Some.slot, at.0, sym c.index.ensures), ap (λ s. s.place) c.index.ensures ∙ at.1, refl)
