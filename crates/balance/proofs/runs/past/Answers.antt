-- The places passed have the number k.
use Rattle.laws.specs.Kit.{sym, ◌∙◌, ap, arith, ℕ_discrete}
use Rattle.sorting.specs.Places.{key_at}
use Rattle.balance.proofs.runs.past.Goals as goal

pub loop-j-init : goal.loop-j-init
loop-j-init c m l h = absurd (omega arith)

pub returns-then-key_at-k : goal.returns-then-key_at-k
returns-then-key_at-k c =
    record {
      from = omega arith;
      to = omega arith;
      are = c.loop-j.invariant;
      other = λ l e. c.if-key_at-k.true (c.key_at.ensures ∙ e);
    }

pub loop-j-preserved : goal.loop-j-preserved
loop-j-preserved c m l h =
    let w = c.args.w.now in
    elim (ℕ_discrete m c.loop-j.j) [
      | yes e ↦ ap (key_at w) e ∙ sym c.key_at.ensures ∙ c.if-key_at-k.false
      | no d ↦ c.loop-j.invariant m l (omega arith)
    ]

pub returns : goal.returns
returns c =
    record { from = omega arith; to = omega arith; are = λ m l h. c.loop-j.invariant m l (omega arith); other = λ l. absurd (omega arith) }
