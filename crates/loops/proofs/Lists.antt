-- Lists of edges: the others than an edge, and the first that passes.
use Rattle.std.specs.Prelude.{◌≡◌, ◌≤◌, ◌∷◌}
use Rattle.laws.specs.Kit.{refl, ◌∙◌, ap, Bool, true, false, none, some, suc, arith, List, [], length}
use Rattle.definition.specs.Lists.{filter, find}
use Rattle.definition.specs.Plane.{Edge}
use Rattle.definition.specs.Cells.{same_edge}
use Rattle.definition.specs.Loops.{without_edge}

-- ---- the others than an edge

pub drop_it : (e f : Edge) (l : List Edge) → same_edge e f ≡ true → without_edge e (f ∷ l) ≡ without_edge e l
unfolding without_edge filter
drop_it e f l h = rw h

pub keep_it : (e f : Edge) (l : List Edge) → same_edge e f ≡ false → without_edge e (f ∷ l) ≡ f ∷ without_edge e l
unfolding without_edge filter
keep_it e f l h = rw h

pub without_nil : (e : Edge) → without_edge e [] ≡ []
unfolding without_edge filter
without_nil e = refl

pub without_few : (e : Edge) (l : List Edge) → length (without_edge e l) ≤ length l
unfolding without_edge filter
without_few e [] = omega arith
without_few e (f ∷ l) = go (same_edge e f) refl (without_few e l)
  where
    go : (b : Bool) → same_edge e f ≡ b → length (without_edge e l) ≤ length l → length (without_edge e (f ∷ l)) ≤ suc (length l)
    go true q r = rw (drop_it e f l q) (omega arith)
    go false q r = rw (keep_it e f l q) (omega arith)

-- none was dropped
pub without_all : (e : Edge) (l : List Edge) → length l ≤ length (without_edge e l) → without_edge e l ≡ l
unfolding without_edge filter
without_all e [] h = refl
without_all e (f ∷ l) h = go (same_edge e f) refl (without_all e l)
  where
    go : (b : Bool) → same_edge e f ≡ b → (length l ≤ length (without_edge e l) → without_edge e l ≡ l) → without_edge e (f ∷ l) ≡ f ∷ l
    go true q r =
        let z : length (without_edge e (f ∷ l)) ≡ length (without_edge e l) = ap length (drop_it e f l q) in
        absurd (omega (arith, h, without_few e l, z))
    go false q r =
        let z : length (without_edge e (f ∷ l)) ≡ suc (length (without_edge e l)) = ap length (keep_it e f l q) in
        keep_it e f l q ∙ ap (λ (k : List Edge). f ∷ k) (r (omega (arith, h, z)))

-- ---- the first that passes

pub find_hit : (q : Edge → Bool) (e : Edge) (l : List Edge) → q e ≡ true → find q (e ∷ l) ≡ some e
unfolding find
find_hit q e l h = rw h

pub find_miss : (q : Edge → Bool) (e : Edge) (l : List Edge) → q e ≡ false → find q (e ∷ l) ≡ find q l
unfolding find
find_miss q e l h = rw h

pub find_none : (q : Edge → Bool) → find q [] ≡ none
unfolding find
find_none q = refl
