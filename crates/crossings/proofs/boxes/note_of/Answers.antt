use Rattle.std.specs.Prelude.{◌+◌}
use Rattle.laws.specs.Kit.{◌∙◌, ap, ℕ, rules, get_or}
use Rattle.crossings.proofs.boxes.note_of.Goals as goal

pub returns : goal.returns
returns c =
    let a = c.args in
    c.wide.ensures ∙ ap (λ (i : ℕ). get_or a.w.now (i + a.a) 0) c.notes_at.ensures
