-- No clause has an offender where each answers None, one after the other.
use Rattle.std.specs.Prelude.{◌≡◌, Bool, true, false, ◌&&◌, is_none}
use mathlib.Core.Path.{refl, sym, ◌∙◌, ap}
use Rattle.accept_numbers.proofs.Telling.{none_is, all_absent}
use Rattle.accept_numbers.proofs.accepted.Goals as goal
use Rattle.accept_numbers.proofs.accepted.Goals.{then-is_none, else-is_none, then-is_none-2, else-is_none-2, then-is_none-3, else-is_none-3, then-is_none-4, else-is_none-4, then-is_none-5, else-is_none-5, then-is_none-6, else-is_none-6}

-- one test behind another
both_then : (v p r n : Bool) → p ≡ true → v ≡ r → r ≡ n → v ≡ p && n
both_then v p r n e f g = f ∙ g ∙ sym (ap (λ z. z && n) e)

both_else : (v p n : Bool) → p ≡ false → v ≡ p → v ≡ p && n
both_else v p n e f = f ∙ e ∙ sym (ap (λ z. z && n) e)

pub returns-then-is_none-7 : goal.returns-then-is_none-7
returns-then-is_none-7 c components =
    let s1 : c.if-is_none.value ≡ c.is_none.result && is_none c.args.a.folded = elim c.if-is_none.branch [
      | then-is_none w ↦ both_then _ _ _ _ w.if-is_none.true w.value-is (none_is _ _ w.is_none-then-is_none.ensures)
      | else-is_none w ↦ both_else _ _ _ w.if-is_none.false w.value-is
    ] in
    let s2 : c.if-is_none-2.value ≡ c.if-is_none.value && is_none c.args.a.sharp = elim c.if-is_none-2.branch [
      | then-is_none-2 w ↦ both_then _ _ _ _ w.if-is_none-2.true w.value-is (none_is _ _ w.is_none-then-is_none-2.ensures)
      | else-is_none-2 w ↦ both_else _ _ _ w.if-is_none-2.false w.value-is
    ] in
    let s3 : c.if-is_none-3.value ≡ c.if-is_none-2.value && is_none c.args.a.given_turned = elim c.if-is_none-3.branch [
      | then-is_none-3 w ↦ both_then _ _ _ _ w.if-is_none-3.true w.value-is (none_is _ _ w.is_none-then-is_none-3.ensures)
      | else-is_none-3 w ↦ both_else _ _ _ w.if-is_none-3.false w.value-is
    ] in
    let s4 : c.if-is_none-4.value ≡ c.if-is_none-3.value && is_none c.args.a.left_turned = elim c.if-is_none-4.branch [
      | then-is_none-4 w ↦ both_then _ _ _ _ w.if-is_none-4.true w.value-is (none_is _ _ w.is_none-then-is_none-4.ensures)
      | else-is_none-4 w ↦ both_else _ _ _ w.if-is_none-4.false w.value-is
    ] in
    let s5 : c.if-is_none-5.value ≡ c.if-is_none-4.value && is_none c.args.a.thin = elim c.if-is_none-5.branch [
      | then-is_none-5 w ↦ both_then _ _ _ _ w.if-is_none-5.true w.value-is (none_is _ _ w.is_none-then-is_none-5.ensures)
      | else-is_none-5 w ↦ both_else _ _ _ w.if-is_none-5.false w.value-is
    ] in
    let s6 : c.if-is_none-6.value ≡ c.if-is_none-5.value && is_none c.args.a.uneven = elim c.if-is_none-6.branch [
      | then-is_none-6 w ↦ both_then _ _ _ _ w.if-is_none-6.true w.value-is (none_is _ _ w.is_none-then-is_none-6.ensures)
      | else-is_none-6 w ↦ both_else _ _ _ w.if-is_none-6.false w.value-is
    ] in
    all_absent c.args.a components _ _ _ _ _ _ _ _ (none_is _ _ c.is_none.ensures) s1 s2 s3 s4 s5 s6
    (both_then _ _ _ _ c.if-is_none-7.true refl (none_is _ _ c.is_none-then-is_none-7.ensures))

pub returns-else-is_none-7 : goal.returns-else-is_none-7
returns-else-is_none-7 c components =
    let s1 : c.if-is_none.value ≡ c.is_none.result && is_none c.args.a.folded = elim c.if-is_none.branch [
      | then-is_none w ↦ both_then _ _ _ _ w.if-is_none.true w.value-is (none_is _ _ w.is_none-then-is_none.ensures)
      | else-is_none w ↦ both_else _ _ _ w.if-is_none.false w.value-is
    ] in
    let s2 : c.if-is_none-2.value ≡ c.if-is_none.value && is_none c.args.a.sharp = elim c.if-is_none-2.branch [
      | then-is_none-2 w ↦ both_then _ _ _ _ w.if-is_none-2.true w.value-is (none_is _ _ w.is_none-then-is_none-2.ensures)
      | else-is_none-2 w ↦ both_else _ _ _ w.if-is_none-2.false w.value-is
    ] in
    let s3 : c.if-is_none-3.value ≡ c.if-is_none-2.value && is_none c.args.a.given_turned = elim c.if-is_none-3.branch [
      | then-is_none-3 w ↦ both_then _ _ _ _ w.if-is_none-3.true w.value-is (none_is _ _ w.is_none-then-is_none-3.ensures)
      | else-is_none-3 w ↦ both_else _ _ _ w.if-is_none-3.false w.value-is
    ] in
    let s4 : c.if-is_none-4.value ≡ c.if-is_none-3.value && is_none c.args.a.left_turned = elim c.if-is_none-4.branch [
      | then-is_none-4 w ↦ both_then _ _ _ _ w.if-is_none-4.true w.value-is (none_is _ _ w.is_none-then-is_none-4.ensures)
      | else-is_none-4 w ↦ both_else _ _ _ w.if-is_none-4.false w.value-is
    ] in
    let s5 : c.if-is_none-5.value ≡ c.if-is_none-4.value && is_none c.args.a.thin = elim c.if-is_none-5.branch [
      | then-is_none-5 w ↦ both_then _ _ _ _ w.if-is_none-5.true w.value-is (none_is _ _ w.is_none-then-is_none-5.ensures)
      | else-is_none-5 w ↦ both_else _ _ _ w.if-is_none-5.false w.value-is
    ] in
    let s6 : c.if-is_none-6.value ≡ c.if-is_none-5.value && is_none c.args.a.uneven = elim c.if-is_none-6.branch [
      | then-is_none-6 w ↦ both_then _ _ _ _ w.if-is_none-6.true w.value-is (none_is _ _ w.is_none-then-is_none-6.ensures)
      | else-is_none-6 w ↦ both_else _ _ _ w.if-is_none-6.false w.value-is
    ] in
    all_absent c.args.a components _ _ _ _ _ _ _ _ (none_is _ _ c.is_none.ensures) s1 s2 s3 s4 s5 s6
    (both_else _ _ _ c.if-is_none-7.false refl)
