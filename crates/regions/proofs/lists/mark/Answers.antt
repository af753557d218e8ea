use Rattle.std.specs.Prelude.{◌+◌}
use Rattle.laws.specs.Kit.{◌∙◌, ap, ℕ, get_or}
use Rattle.regions.proofs.lists.mark.Goals as goal

pub returns : goal.returns
returns c =
    c.wide.ensures ∙ ap (λ (k : ℕ). get_or c.args.w.now (k + c.args.j) 0) c.marks_at.ensures
