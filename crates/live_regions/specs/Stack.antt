-- The live region in hand: a mark for each slot, the list of the cells in reach,
-- and the stack as a ring of s + 1 codes with the sentinel s.
use Rattle.std.specs.Prelude.{◌≡◌, Bool, true, false, ◌||◌, ℕ, ◌+◌, ◌/◌, ◌%◌, ◌^◌, ◌<◌, ◌≤◌, eqb, length, get_or, Float, Option, Some, None}
use mathlib.Core.List.{List, [], ◌∷◌, ◌++◌, foldl}
use Rattle.rings.specs.Rings.{Out, Distinct, Below, Ring}
use Rattle.definition.specs.Lists.{any}
use Rattle.definition.specs.Plane.{Edge}
use Rattle.definition.specs.Cells.{Tri, Live, Mesh, live_tri, in_slot, key, owners}
use Rattle.definition.specs.Candidates.{on_top, neighbours, shared_by_tris}
use Rattle.laws.specs.Lists.{Stored}
use Rattle.cells.specs.Layout.{codes, marks_at, list_at, refused_at, stack_at, all_end}
use Rattle.cells.specs.Rep.{Rep, Pts, Has, TriIn, slots}
use Rattle.live_regions.specs.Walls.{wall_mark}

-- each is a live triangle
abbrev pub Inner : Mesh → List Live → Type 0
Inner m [] = Unit {0}
Inner m (x ∷ l) = Has x m.live × (live_tri x ≡ true) × Inner m l

-- turned round: the ring's last code is the top
abbrev pub rev : List ℕ → List ℕ
rev [] = []
rev (x ∷ l) = rev l ++ x ∷ []

-- a cell of slot i is in the list
abbrev pub listed : ℕ → List Live → Bool
listed i l = any (in_slot i) l

-- the mark of a slot: 2 to 15 seen, 16 or more on the stack, 0 neither
abbrev pub Mark : ℕ → Bool → Bool → Type 0
Mark n true b = (2 ≤ n) × (n < 16)
Mark n false true = 16 ≤ n
Mark n false false = n ≡ 0

-- each was seen
abbrev pub Visited : List Live → List Live → Type 0
Visited seen [] = Unit {0}
Visited seen (x ∷ l) = (listed x.slot seen ≡ true) × Visited seen l

-- the mark of each tells its walls
abbrev pub Noted : List ℕ → ℕ → ℕ → Mesh → List Live → Type 0
Noted w s p m [] = Unit {0}
Noted w s p m (x ∷ l) = (get_or w (marks_at s p + x.slot) 0 ≡ wall_mark m x) × Noted w s p m l

-- each is in slot i or was seen
abbrev pub Behind : ℕ → List Live → List Live → Type 0
Behind i seen [] = Unit {0}
Behind i seen (x ∷ l) = ((eqb x.slot i || listed x.slot seen) ≡ true) × Behind i seen l

-- the triangle in slot i need not push the owners of its edge e: they are two triangles, itself and one that was seen
pub record Passed (m : Mesh) (i : ℕ) (seen : List Live) (e : Edge) : Type 0 where
  pub shared : shared_by_tris m e ≡ true
  pub behind : Behind i seen (owners m e)

-- so for each of its edges whose bit the mark n has: 1, 2 and 4 in the order of the edges
pub record Told (m : Mesh) (i : ℕ) (seen : List Live) (n : ℕ) (t : Tri) : Type 0 where
  pub first : n % 2 ≡ 1 → Passed m i seen (key t.n0 t.n1)
  pub second : n / 2 % 2 ≡ 1 → Passed m i seen (key t.n1 t.n2)
  pub third : n / 4 % 2 ≡ 1 → Passed m i seen (key t.n2 t.n0)

-- so for each triangle on the stack
abbrev pub Known : List ℕ → ℕ → ℕ → Mesh → List Live → Type 0
Known w s p m seen = (i : ℕ) (t : TriIn m i) → 16 ≤ get_or w (marks_at s p + i) 0 → Told m i seen (get_or w (marks_at s p + i) 0) t.t

-- none of the second was seen
abbrev pub Fresh : List Live → List Live → Type 0
Fresh seen [] = Unit {0}
Fresh seen (x ∷ l) = (listed x.slot seen ≡ false) × Fresh seen l

-- the slot on top, or another number
abbrev pub top_or : ℕ → List Live → ℕ
top_or n [] = n
top_or n (x ∷ st) = x.slot

-- the slot on top, if there is one
abbrev pub top_of : List Live → Option ℕ
top_of [] = None
top_of (x ∷ st) = Some x.slot

-- nothing changed but marks, list and stack
pub record Scratch (w w' : List ℕ) (s p : ℕ) : Type 0 where
  pub len : length w' ≡ length w
  pub mesh : (i : ℕ) → i < marks_at s p → get_or w' i 0 ≡ get_or w i 0
  pub rest : (i : ℕ) → refused_at s p ≤ i → i < stack_at s p → get_or w' i 0 ≡ get_or w i 0

-- the cells in reach so far, those seen and those on the stack
pub record Hold (w : List ℕ) (s p : ℕ) (m : Mesh) (out seen st : List Live) : Type 0 where
  pub rep : Rep w s p m
  pub fits : all_end s p ≤ length w
  pub ring : Ring w (stack_at s p) (s + 1) s (rev (slots st))
  pub stack : Inner m st
  pub inner : Inner m out
  pub fresh : Fresh seen st
  pub distinct : Distinct (slots seen)
  pub below : Below m.used (slots seen)
  pub few : length out ≤ length seen
  pub stored : Stored w (list_at s p) (slots out)
  pub marks : (i : ℕ) → i < m.used → Mark (get_or w (marks_at s p + i) 0) (listed i seen) (listed i st)
  pub visited : Visited seen out
  pub noted : Noted w s p m out
  pub known : Known w s p m seen

-- and so after a change
pub record PushTo (w w' : List ℕ) (s p : ℕ) (m : Mesh) (out seen st : List Live) : Type 0 where
  pub hold : Hold w' s p m out seen st
  pub scratch : Scratch w w' s p

-- the triangle in slot i, which was seen, owns u-v
pub record CanPush (w : List ℕ) (s p i u v : ℕ) (m : Mesh) (out seen st : List Live) : Type 0 where
  pub hold : Hold w s p m out seen st
  pub visited : listed i seen ≡ true
  pub owner : listed i (owners m (key u v)) ≡ true

-- and it need not push the owners where b is 1
pub record CanPass (w : List ℕ) (s p i u v b : ℕ) (m : Mesh) (out seen st : List Live) : Type 0 where
  pub can : CanPush w s p i u v m out seen st
  pub passed : b ≡ 1 → Passed m i seen (key u v)

-- and so with the owners of u-v pushed; r tells whether they are two triangles
pub record EdgeTo (w w' : List ℕ) (s p u v : ℕ) (r : Bool) (m : Mesh) (out seen st : List Live) : Type 0 where
  pub to : PushTo w w' s p m out seen (foldl (on_top seen) st (owners m (key u v)))
  pub shared : r ≡ shared_by_tris m (key u v)

-- the triangle t in slot i was seen, with the mark n before
pub record CanPushAll (w : List ℕ) (s p i n : ℕ) (m : Mesh) (out seen st : List Live) (t : Tri) : Type 0 where
  pub hold : Hold w s p m out seen st
  pub visited : listed i seen ≡ true
  pub told : Told m i seen n t

-- and so with the neighbours of x pushed; r tells its walls
pub record AroundTo (w w' : List ℕ) (s p r : ℕ) (m : Mesh) (out seen st : List Live) (x : Live) : Type 0 where
  pub to : PushTo w w' s p m out seen (foldl (on_top seen) st (neighbours m x))
  pub walls : r ≡ wall_mark m x

-- the live cell e, in slot j, is met
pub record Met (w : List ℕ) (s p j : ℕ) (m : Mesh) (out seen st : List Live) (e : Live) : Type 0 where
  pub hold : Hold w s p m out seen st
  pub has : Has e m.live
  pub slot : j ≡ e.slot
  pub inside : j < s

-- x, in slot i, is on top
pub record OnTop (w : List ℕ) (s p i : ℕ) (m : Mesh) (out seen st : List Live) (x : Live) : Type 0 where
  pub hold : Hold w s p m out seen (x ∷ st)
  pub slot : i ≡ x.slot
  pub inside : i < s

-- the owners of u-v are two triangles, in the slots a and b, and the one in slot i was seen
pub record Pair (w : List ℕ) (s p i a b u v : ℕ) (m : Mesh) (out seen st : List Live) : Type 0 where
  pub can : CanPush w s p i u v m out seen st
  pub x : Live
  pub y : Live
  pub are : owners m (key u v) ≡ x ∷ y ∷ []
  pub tris : (live_tri x ≡ true) × (live_tri y ≡ true)
  pub first : a ≡ x.slot
  pub second : b ≡ y.slot
  pub shared : shared_by_tris m (key u v) ≡ true

-- the triangle in slot j need not push the owners of u-v
pub record CanNote (w : List ℕ) (s p j u v : ℕ) (m : Mesh) (out seen st : List Live) : Type 0 where
  pub hold : Hold w s p m out seen st
  pub tri : TriIn m j
  pub passed : Passed m j seen (key u v)

-- the mark n becomes r, in which a true note of the edge u-v of the nodes x, y, z came to those that were true
abbrev pub Adds : ℕ → ℕ → ℕ → ℕ → ℕ → ℕ → ℕ → Type 0
Adds n r x y z u v =
    (m : Mesh) (i : ℕ) (seen : List Live) (t : Tri) → x ≡ t.n0 → y ≡ t.n1 → z ≡ t.n2 → Passed m i seen (key u v) → Told m i seen n t → Told m i seen r t

-- x was taken; r was its mark
pub record TakeTo (w w' : List ℕ) (s p i r : ℕ) (m : Mesh) (out seen st : List Live) (x : Live) : Type 0 where
  pub to : PushTo w w' s p m out (x ∷ seen) st
  pub told : (t : TriIn m i) → Told m i (x ∷ seen) r t.t

-- so with n cells in the list
pub record StepFrom (w : List ℕ) (s p n i : ℕ) (m : Mesh) (out seen st : List Live) (x : Live) : Type 0 where
  pub top : OnTop w s p i m out seen st x
  pub len : n ≡ length out

-- x, in slot i, may come to the end of the list of n, with the mark f
pub record CanList (w : List ℕ) (s p n i f : ℕ) (m : Mesh) (out seen st : List Live) (x : Live) : Type 0 where
  pub hold : Hold w s p m out seen st
  pub slot : i ≡ x.slot
  pub has : Has x m.live
  pub tri : live_tri x ≡ true
  pub len : n ≡ length out
  pub more : n < length seen
  pub visited : listed x.slot seen ≡ true
  pub apart : Out i (slots out)
  pub walls : f ≡ wall_mark m x
  pub inside : i < s
  pub room : n < s

-- a visit is done, with r cells in the list
pub record StepTo (w w' : List ℕ) (s p r : ℕ) (m : Mesh) (out seen st : List Live) : Type 0 where
  pub to : PushTo w w' s p m out seen st
  pub len : r ≡ length out

-- the lent slices stand for the mesh, of which so many slots were given out
pub record Lent (w : List ℕ) (q : List Float) (s p used : ℕ) (m : Mesh) : Type 0 where
  pub rep : Rep w s p m
  pub pts : Pts q p m
  pub given : used ≡ m.used

-- the r live triangles `out` are listed in their order, with their walls noted
pub record LiveTo (w w' : List ℕ) (s p r : ℕ) (m : Mesh) (out : List Live) : Type 0 where
  pub len : r ≡ length out
  pub few : r ≤ s
  pub stored : Stored w' (list_at s p) (slots out)
  pub inner : Inner m out
  pub noted : Noted w' s p m out
  pub scratch : Scratch w w' s p

-- the marks of the first n slots are 0
pub record Unmarked (w w' : List ℕ) (s p n : ℕ) : Type 0 where
  pub zero : (i : ℕ) → i < n → get_or w' (marks_at s p + i) 0 ≡ 0
  pub scratch : Scratch w w' s p

-- what clearing so many marks asks
pub record CanClear (w : List ℕ) (s p n : ℕ) : Type 0 where
  pub fits : all_end s p ≤ length w
  pub small : codes s p ≤ 2 ^ 32
  pub few : n ≤ s
