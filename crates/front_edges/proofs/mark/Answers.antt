-- A number that 4 divides is followed by three more below the word's bound.
use Rattle.std.specs.Prelude.{◌≡◌, ◌+◌, ◌%◌}
use Rattle.laws.specs.Kit.{sym, ap, subst, ℕ, arith, get_or, set}
use Rattle.front_edges.proofs.mark.Goals as goal

pub overflow_add-w : goal.overflow_add-w
overflow_add-w c =
    let n = c.notes_at in
    let a = c.args in
    let f : get_or a.w.now (n.result + a.u) 0 % 4 ≡ 0 = subst (λ (i : ℕ). get_or a.w.now (i + a.u) 0 % 4 ≡ 0) (sym n.ensures) c.requires.can_mark.free in
    omega (arith, c.slice_known-2-1.given (n.result + a.u), f, c.requires.n_bound)

pub returns : goal.returns
returns c =
    let n = c.notes_at in
    let a = c.args in
    ap (λ (i : ℕ). set a.w.now (i + a.u) (get_or a.w.now (i + a.u) 0 + a.n)) n.ensures
