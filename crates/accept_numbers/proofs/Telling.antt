-- The numbers of a verdict as thirteen stores, and a place that is named as a number.
use mathlib.Core.Path.{◌≡◌, refl, sym, ap, ◌∙◌}
use mir.Val.{bool_byte}
use mathlib.Core.List.{List}
use Prim.Native.Nat.{ℕ, ◌≤◌}
use native.Mathlib.Omega.{arith}
use lib.ListN.{length, set}
use lib.Seq.{sets-eq}
use Rattle.std.specs.Prelude.{Bool, true, false, cond, ◌&&◌, Option, None, Some, unwrap_or, is_some, is_none, not}
use Rattle.definition.specs.Plane.{Edge}
use Rattle.definition.specs.Call.{onto}
use Rattle.lost_joints.specs.Promise.{option}
use Rattle.verdicts.specs.declared.Answered.{Answered}
use Rattle.verdicts.specs.Promise.{verdict_of}
use Rattle.accept_numbers.specs.declared.Told.{Told}
use Rattle.accept_numbers.specs.Numbers.{absent, place_of, ends, clean}
use Rattle.accept_numbers.specs.Said.{in_order}

-- ---- the numbers

-- the place that is named, or n
pub place_is : (n : ℕ) (r : Option ℕ) → unwrap_or r n ≡ place_of n (option r)
place_is n None = refl
place_is n (Some i) = refl

-- the ends of the edge that is named, or zeros
pub ends_are : (r : Option Edge) → unwrap_or r (0, 0) ≡ ends (option r)
ends_are None = refl
ends_are (Some e) = refl

-- ---- the stores

-- first to last
abbrev stored : List ℕ → Told → List ℕ
stored xs t =
    set (set (set (set (set (set (set (set (set (set (set (set (set xs
    0 t.accepted) 1 t.moved) 2 t.added) 3 t.folded) 4 t.sharp) 5 t.given_flat) 6 t.left_flat) 7 t.thin) 8 t.u) 9 t.v) 10 t.joint) 11 t.groups) 12 t.odd

pub written : (xs : List ℕ) (t : Told) → 13 ≤ length xs → stored xs t ≡ onto (in_order t) xs
unfolding onto
written xs t h = sets-eq (in_order t) xs 0 (omega (arith, h))

-- 1 where it is so, otherwise 0
abbrev pub one_if : Bool → ℕ
one_if b = cond b 1 0

pub as_number : (b : Bool) → bool_byte b ≡ one_if b
as_number true = refl
as_number false = refl

-- ---- no offender

nothing : {A : Type 0} (o : Option A) → is_none o ≡ absent (option o)
nothing None = refl
nothing (Some x) = refl

assoc : (a b c : Bool) → (a && b) && c ≡ a && (b && c)
assoc true b c = refl
assoc false b c = refl

glue : {A : Type 0} (v p r : Bool) (o : Option A) → v ≡ p && is_none o → v && r ≡ p && (absent (option o) && r)
glue v p r o e = ap (λ z. z && r) (e ∙ ap (λ z. p && z) (nothing o)) ∙ assoc p (absent (option o)) r

front : (v p r : Bool) → v ≡ p → v && r ≡ p && r
front v p r e = ap (λ z. z && r) e

twice : (r : Bool) → r ≡ not (not r)
twice true = refl
twice false = refl

not_some : {A : Type 0} (o : Option A) → not (is_some o) ≡ is_none o
not_some None = refl
not_some (Some x) = refl

-- what `is_none` answers
pub none_is : {A : Type 0} (o : Option A) (r : Bool) → is_some o ≡ not r → r ≡ is_none o
none_is o r e = twice r ∙ ap not (sym e) ∙ not_some o

-- the tests one behind the other
pub all_absent : (a : Answered) (components : List ℕ) (v₀ v₁ v₂ v₃ v₄ v₅ v₆ r : Bool) → v₀ ≡ is_none a.moved → v₁ ≡ v₀ && is_none a.folded → v₂ ≡ v₁ && is_none a.sharp → v₃ ≡ v₂ && is_none a.given_turned
    → v₄ ≡ v₃ && is_none a.left_turned → v₅ ≡ v₄ && is_none a.thin → v₆ ≡ v₅ && is_none a.uneven → r ≡ v₆ && is_none a.lost → r ≡ clean (verdict_of a components)
unfolding clean verdict_of
all_absent a components v₀ v₁ v₂ v₃ v₄ v₅ v₆ r e₀ e₁ e₂ e₃ e₄ e₅ e₆ e₇ =
    e₇ ∙ ap (λ z. v₆ && z) (nothing a.lost) ∙ glue v₆ v₅ _ a.uneven e₆ ∙ glue v₅ v₄ _ a.thin e₅ ∙ glue v₄ v₃ _ a.left_turned e₄ ∙ glue v₃ v₂ _ a.given_turned e₃ ∙ glue v₂ v₁ _ a.sharp e₂ ∙ glue v₁ v₀ _ a.folded e₁
    ∙ front v₀ _ _ (e₀ ∙ nothing a.moved)
