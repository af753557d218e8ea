-- Rings of codes in a memory of numbers: next[] of n codes stands at b, prev[] at b + n.
-- A ring is named by its sentinel, which is a code too.
use Rattle.std.specs.Prelude.{◌≡◌, ◌+◌, ◌^◌, ◌<◌, ◌≤◌, ◌∷◌, ◌++◌}
use Rattle.laws.specs.Kit.{Bool, true, false, cond, ℕ, eqb, List, [], length, get_or, set}
use Rattle.laws.specs.Frames.{Only}

-- the code after i, and the code before i
abbrev pub nx : List ℕ → ℕ → ℕ → ℕ
nx w b i = get_or w (b + i) 0

abbrev pub pv : List ℕ → ℕ → ℕ → ℕ → ℕ
pv w b n i = get_or w (b + n + i) 0

-- from a by way of l to z, each consecutive pair linked both ways; f is next and g is prev
abbrev pub Linked : (ℕ → ℕ) → (ℕ → ℕ) → ℕ → List ℕ → ℕ → Type 0
Linked f g a [] z = (f a ≡ z) × (g z ≡ a)
Linked f g a (x ∷ l) z = (f a ≡ x) × (g x ≡ a) × Linked f g x l z

-- c is not in l
abbrev pub Out : ℕ → List ℕ → Type 0
Out c [] = Unit {0}
Out c (x ∷ l) = (x ≡ c → ⊥) × Out c l

-- no number stands in the list twice
abbrev pub Distinct : List ℕ → Type 0
Distinct [] = Unit {0}
Distinct (x ∷ l) = Out x l × Distinct l

-- each number of the list is below n
abbrev pub Below : ℕ → List ℕ → Type 0
Below n [] = Unit {0}
Below n (x ∷ l) = (x < n) × Below n l

-- l without c
unfoldable pub without : ℕ → List ℕ → List ℕ
without c [] = []
without c (x ∷ l) = cond (eqb x c) (without c l) (x ∷ without c l)

-- the ring of the sentinel t is l
pub record Ring (w : List ℕ) (b n t : ℕ) (l : List ℕ) : Type 0 where
  pub linked : Linked (nx w b) (pv w b n) t l t
  pub distinct : Distinct l
  pub below : Below n l
  pub apart : Out t l
  pub here : t < n

-- what link stores
unfoldable pub linkedW : List ℕ → ℕ → ℕ → ℕ → ℕ → List ℕ
linkedW w b n c t = set (set (set (set w (b + pv w b n t) c) (b + c) t) (b + n + c) (pv w b n t)) (b + n + t) c

-- what unlink stores
unfoldable pub unlinkedW : List ℕ → ℕ → ℕ → ℕ → List ℕ
unlinkedW w b n c = set (set w (b + pv w b n c) (nx w b c)) (b + n + nx w b c) (pv w b n c)

-- nothing changed but the 2 n numbers from b on
abbrev pub Kept : List ℕ → List ℕ → ℕ → ℕ → Type 0
Kept w w' b n = Only w w' b (b + n + n)

-- c came in before the sentinel t; the other rings that do not have c stay
pub record LinkedTo (w w' : List ℕ) (b n c t : ℕ) : Type 0 where
  pub text : w' ≡ linkedW w b n c t
  pub kept : Kept w w' b n
  pub own : (l : List ℕ) → Ring w b n t l → Out c l → (c ≡ t → ⊥) → Ring w' b n t (l ++ c ∷ [])
  pub other : (k : List ℕ) → Ring w b n t k → Out c k → (c ≡ t → ⊥)
      → (l : List ℕ) (z : ℕ) → Ring w b n z l → (z ≡ t → ⊥) → Out t l → Out c l → (z ≡ c → ⊥) → Ring w' b n z l

-- c, which stood in a ring, is gone from every ring
pub record UnlinkedFrom (w w' : List ℕ) (b n c : ℕ) : Type 0 where
  pub text : w' ≡ unlinkedW w b n c
  pub kept : Kept w w' b n
  pub rings : (l : List ℕ) (z : ℕ) → Ring w b n z l → (z ≡ c → ⊥) → Ring w' b n z (without c l)

-- every code from t on is the sentinel of an empty ring
pub record OpenedFrom (w w' : List ℕ) (b n t : ℕ) : Type 0 where
  pub kept : Kept w w' b n
  pub empty : (c : ℕ) → t ≤ c → c < n → Ring w' b n c []

-- what a read of code c asks
pub record CanRead (w : List ℕ) (b n c : ℕ) : Type 0 where
  pub fits : b + n + n ≤ length w
  pub code : c < n

-- what open asks
pub record CanOpen (w : List ℕ) (b n t : ℕ) : Type 0 where
  pub fits : b + n + n ≤ length w
  pub small : n ≤ 2 ^ 32
  pub first : t ≤ n

-- what link asks
pub record CanLink (w : List ℕ) (b n c t : ℕ) : Type 0 where
  pub fits : b + n + n ≤ length w
  pub small : n ≤ 2 ^ 32
  pub code : c < n
  pub sentinel : t < n
  pub last : pv w b n t < n

-- what unlink asks
pub record CanUnlink (w : List ℕ) (b n c : ℕ) : Type 0 where
  pub fits : b + n + n ≤ length w
  pub code : c < n
  pub next : nx w b c < n
  pub prev : pv w b n c < n
  pub back : nx w b (pv w b n c) ≡ c
  pub forth : pv w b n (nx w b c) ≡ c

-- all rings at once: the sentinels are the codes from t on, t + v that of the ring R v, whose codes are below t
pub record Family (w : List ℕ) (b n t : ℕ) (R : ℕ → List ℕ) : Type 0 where
  pub fits : b + n + n ≤ length w
  pub small : n ≤ 2 ^ 32
  pub rings : (v : ℕ) → t + v < n → Ring w b n (t + v) (R v)
  pub below : (v : ℕ) → Below t (R v)

-- x where the test passes
abbrev pub pick : Bool → ℕ → List ℕ
pick true x = x ∷ []
pick false x = []

-- the rings with one more code at the end of ring a
abbrev pub more : (ℕ → List ℕ) → ℕ → ℕ → ℕ → List ℕ
more R c a v = R v ++ pick (eqb a v) c

-- the rings without a code
abbrev pub less : (ℕ → List ℕ) → ℕ → ℕ → List ℕ
less R c v = without c (R v)
