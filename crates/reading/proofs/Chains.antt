-- Readings one after the other: what is known of each, and what follows of the whole.
use Rattle.std.specs.Prelude.{◌≡◌, ◌∷◌, Option, None, Some, MatchOption}
use Rattle.laws.specs.Kit.{sym, subst, none, ℕ, []}
use Rattle.definition.specs.Text.{Bytes, Reader, take_on, exactly, give, ◌>>=◌, ◌>>◌}
use Rattle.reading.specs.Found.{taken, and_then}

-- a reader that ends with nothing
pub refused : {T : Type 0} {o : Option T} (P : Type 0) (Q : T → Type 0) → o ≡ None → P → MatchOption o P Q
refused P Q e p = subst (λ z. MatchOption z P Q) (sym e) p

-- what is known where nothing was read, and where a value was
pub lost : {T : Type 0} {o : Option T} (P : Type 0) (Q : T → Type 0) → o ≡ None → MatchOption o P Q → P
lost P Q e h = subst (λ z. MatchOption z P Q) e h

pub got : {T : Type 0} {o : Option T} (P : Type 0) (Q : T → Type 0) {x : T} → o ≡ Some x → MatchOption o P Q → Q x
got P Q e h = subst (λ z. MatchOption z P Q) e h

-- what an answer says, in other words
pub retold : {T : Type 0} {P R : Type 0} {Q S : T → Type 0} (o : Option T) → (P → R) → ((x : T) → Q x → S x) → MatchOption o P Q → MatchOption o R S
retold None f g h = f h
retold (Some x) f g h = g x h

module _ {A : Type 0} (b : ℕ) (r : Reader A) (x : Bytes) where
  -- no value
  pub then_off : none ≡ r x → none ≡ and_then b r x
  unfolding and_then ◌>>=◌ take_on
  then_off e = rw (← e)

  module _ (v : A) (p : Bytes) (e : taken v p ≡ r x) where
    -- a value, and another byte after it
    pub then_other : none ≡ exactly (b ∷ []) p → none ≡ and_then b r x
    unfolding and_then ◌>>=◌ ◌>>◌ take_on
    then_other f = rw (← e, ← f)

    -- a value and the byte
    pub then_both : (q : Bytes) → taken tt q ≡ exactly (b ∷ []) p → taken v q ≡ and_then b r x
    unfolding and_then ◌>>=◌ ◌>>◌ take_on give
    then_both q f = rw (← e, ← f)
