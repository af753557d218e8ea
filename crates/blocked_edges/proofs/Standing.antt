-- When `stands` holds, by the tests that `is_blocked` makes on the edge's record i.
use Rattle.std.specs.Prelude.{◌≡◌, ◌&&◌, ◌<◌, ◌≤◌}
use Rattle.laws.specs.Kit.{refl, sym, Bool, true, false, ℕ, ltb, leb, lt-ltb, le-ltb, ltb-true, lt-leb, le-leb, List}
use mathlib.Core.Bool.{and-false}
use Rattle.definition.specs.Plane.{Edge}
use Rattle.blocked_edges.specs.Records.{birth, touched, place, stands}

module _ (w : List ℕ) (b n p : ℕ) (ever : List Edge) (e : Edge) (i : ℕ) (at : i ≡ place n e ever) where
  pub stands_none : n ≤ i → stands w b n p ever e ≡ false
  unfolding stands
  stands_none h = rw (sym at, le-ltb i n h)

  pub stands_true : i < n → touched w b n p e.0 ≤ birth w b n i → touched w b n p e.1 ≤ birth w b n i → stands w b n p ever e ≡ true
  unfolding stands
  stands_true l f g = rw (sym at, lt-ltb i n l, le-leb (touched w b n p e.0) (birth w b n i) f, le-leb (touched w b n p e.1) (birth w b n i) g)

  -- a quad with one of the nodes came later
  stands_late : (i < n → (leb (touched w b n p e.0) (birth w b n i) && leb (touched w b n p e.1) (birth w b n i)) ≡ false) → stands w b n p ever e ≡ false
  unfolding stands
  stands_late f = rw (sym at) (go (ltb i n) refl)
    where
      go : (t : Bool) → ltb i n ≡ t → (t && leb (touched w b n p e.0) (birth w b n i) && leb (touched w b n p e.1) (birth w b n i)) ≡ false
      go true s = f (ltb-true i n s)
      go false s = refl

  -- a quad with the smaller node came later
  pub stands_first : (i < n → birth w b n i < touched w b n p e.0) → stands w b n p ever e ≡ false
  stands_first f = stands_late (λ l. rw (lt-leb (touched w b n p e.0) (birth w b n i) (f l)))

  -- a quad with the larger node came later
  pub stands_second : (i < n → birth w b n i < touched w b n p e.1) → stands w b n p ever e ≡ false
  stands_second f = stands_late (λ l. rw (lt-leb (touched w b n p e.1) (birth w b n i) (f l)) (and-false (leb (touched w b n p e.0) (birth w b n i))))
