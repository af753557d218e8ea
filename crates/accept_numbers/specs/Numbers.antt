-- The definition's answer as numbers, and what the first of them means.
use Rattle.std.specs.Prelude.{◌≡◌, refl, Bool, true, false, cond, ◌&&◌, List, [], ◌∷◌, ℕ, eqb, length}
use Rattle.std.proofs.Math.Option.{Option, none, some}
use Rattle.definition.specs.Plane.{Edge}
use Rattle.definition.specs.Call.{onto}
use Rattle.laws.specs.Bools.{never, both}
use Rattle.accept.specs.Accept.{Verdict}
use Rattle.accept.specs.Call.{Handed, Answer, found, refusal}
use Rattle.accept.specs.Theorems.{Clean}

-- ---- one number

-- nothing is named
abbrev pub absent : {A : Type 0} → Option A → Bool
absent none = true
absent (some x) = false

-- the place that is named; n, how many there are, where none is
abbrev pub place_of : ℕ → Option ℕ → ℕ
place_of n none = n
place_of n (some i) = i

-- the ends of an edge, zeros where there is none
abbrev pub ends : Option Edge → Edge
ends none = (0, 0)
ends (some e) = e

-- no clause has an offender
unfoldable pub clean : Verdict → Bool
clean v = absent v.moved && (absent v.folded && (absent v.sharp && (absent v.given_turned && (absent v.left_turned && (absent v.thin && (absent v.uneven && absent v.lost))))))

-- ---- all of them

-- the thirteen numbers of a verdict on what is handed in
unfoldable pub listed : Handed → Verdict → List ℕ
listed h v =
    cond (clean v) 1 0
    ∷ place_of h.given v.moved
    ∷ v.added
    ∷ place_of h.quads v.folded
    ∷ place_of h.quads v.sharp
    ∷ place_of h.count v.given_turned
    ∷ place_of h.left v.left_turned
    ∷ place_of h.left v.thin
    ∷ (ends v.uneven).0
    ∷ (ends v.uneven).1
    ∷ place_of h.joints v.lost
    ∷ length v.sizes
    ∷ v.odd
    ∷ []

-- what is returned: a refusal's number, and 0 where there is a verdict
abbrev pub number : Answer → ℕ
number (found v) = 0
number (refusal k) = k

-- what the slice holds: the numbers of a verdict before what was there, and after a refusal what was there
abbrev pub put : Handed → Answer → List ℕ → List ℕ
put h (found v) old = onto (listed h v) old
put h (refusal k) old = old

-- k is returned, and the slice that held `old` holds `new`
pub record Tells (h : Handed) (a : Answer) (old : List ℕ) (k : ℕ) (new : List ℕ) : Type 0 where
  pub number_is : k ≡ number a
  pub answer_is : new ≡ put h a old

-- the number of a call whose answer is too short: 1 and 14 come before 4
abbrev pub up_to_4 : ℕ → ℕ
up_to_4 k = cond (eqb k 1) 1 (cond (eqb k 14) 14 4)

-- ---- what the first number means

is_none : {A : Type 0} (o : Option A) → absent o ≡ true → o ≡ none
is_none none e = refl
is_none (some x) e = never false e refl

-- the test holds exactly where the verdict names no offender
pub clean_means : (v : Verdict) → (clean v ≡ true → Clean v) × (Clean v → clean v ≡ true)
unfolding clean
clean_means v = (
  λ e.
      let a = both (absent v.moved) _ e in
      let b = both (absent v.folded) _ a.1 in
      let c = both (absent v.sharp) _ b.1 in
      let d = both (absent v.given_turned) _ c.1 in
      let f = both (absent v.left_turned) _ d.1 in
      let g = both (absent v.thin) _ f.1 in
      let u = both (absent v.uneven) _ g.1 in
      record {
        moved = is_none v.moved a.0;
        folded = is_none v.folded b.0;
        sharp = is_none v.sharp c.0;
        given_turned = is_none v.given_turned d.0;
        left_turned = is_none v.left_turned f.0;
        thin = is_none v.thin g.0;
        uneven = is_none v.uneven u.0;
        lost = is_none v.lost u.1;
      },
  λ c. rw (c.moved, c.folded, c.sharp, c.given_turned, c.left_turned, c.thin, c.uneven, c.lost) refl,
)
