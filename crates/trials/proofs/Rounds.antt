-- What a loop that goes backward through a list of nodes keeps:
-- the trials of the nodes from j on are inserted, the last one first.
use mathlib.Core.Path.{◌≡◌, refl, ap, sym, ◌∙◌}
use mathlib.Core.List.{List, [], ◌∷◌, ◌++◌}
use Prim.Native.Nat.{ℕ, zero, suc, ◌≤◌, ◌<◌}
use native.Mathlib.Nat.{not-suc-le-zero}
use native.Mathlib.Omega.{arith}
use lib.ListN.{length, take, drop, get_or}
use lib.Seq.{drop-cons, drop-length}
use lib.Ieee.{Float}
use Rattle.definition.specs.Call.{first_points}
use Rattle.definition.specs.Cells.{Mesh}
use Rattle.definition.specs.Lists.{flat_map}
use Rattle.definition.specs.Numbers.{Quality}
use Rattle.definition.specs.Trials.{Trial, trial, trial_before, trials}
use Rattle.trials.specs.Kept.{Keeps, listed, onto}
use Rattle.trials.specs.Ranked.{Named, part, trial_at, part_below}
use Rattle.trials.proofs.Insertion.{one_more, sort_onto}
use Rattle.trials.proofs.Rating.{trial_mesh}

-- two functions that agree on the list's elements
pub flat_map_same : {B : Type 0} (f g : ℕ → List B) (l : List ℕ) → ((i : ℕ) → i < length l → f (get_or l i 0) ≡ g (get_or l i 0)) → flat_map f l ≡ flat_map g l
unfolding flat_map
flat_map_same f g [] h = refl
flat_map_same f g (x ∷ xs) h = rw (h 0 (omega arith), flat_map_same f g xs (λ i u. h (suc i) (omega arith)))

-- one element more
pub cons_map : {B : Type 0} (f : ℕ → List B) (l : List ℕ) (i : ℕ) → i < length l → f (get_or l i 0) ++ flat_map f (drop (suc i) l) ≡ flat_map f (drop i l)
unfolding flat_map
cons_map f l i h = rw (drop-cons l i 0 h)

-- ---- backward through the list

module _ (f : ℕ → List Trial) (xs : List ℕ) (l : List Trial) (pairs n : ℕ) where
  pub record Gone (s : List Float) (v : List ℕ) (k j : ℕ) : Type 0 where
    pub within : j ≤ n
    pub so_far : Keeps s v pairs k (take pairs (onto trial_before (flat_map f (drop j xs)) l))

  module _ (w : length xs ≡ n) where
    pub gone_none : (s : List Float) (v : List ℕ) (k : ℕ) → Keeps s v pairs k (take pairs l) → Gone s v k n
    unfolding flat_map onto
    gone_none s v k h = record { within = omega arith; so_far = rw (← w, drop-length xs) h }

    pub gone_more : (s : List Float) (v : List ℕ) (k : ℕ) (s' : List Float) (v' : List ℕ) (k' j i : ℕ) → j ≡ suc i → Gone s v k j
        → Keeps s' v' pairs k' (take pairs (onto trial_before (f (get_or xs i 0)) (listed s v k))) → Gone s' v' k' i
    gone_more s v k s' v' k' j i e g h =
        let u : i < length xs = omega arith in
        let before = g.so_far.list ∙ ap (λ (t : ℕ). take pairs (onto trial_before (flat_map f (drop t xs)) l)) e in
        record {
          within = omega arith;
          so_far =
              record {
                few = h.few;
                list =
                    one_more trial_before pairs (f (get_or xs i 0)) (flat_map f (drop (suc i) xs)) l before h.list
                    ∙ ap (λ (t : List Trial). take pairs (onto trial_before t l)) (cons_map f xs i u);
              };
        }

  pub gone_all : (s : List Float) (v : List ℕ) (k j : ℕ) → Gone s v k j → j ≤ 0 → Keeps s v pairs k (take pairs (onto trial_before (flat_map f xs) l))
  gone_all s v k zero g h = g.so_far
  gone_all s v k (suc j) g h = absurd (not-suc-le-zero h)

-- ---- all pairs

-- the trials of all pairs, inserted the last one first, are the definition's
pub best_of : (y : Quality) (m : Mesh) (n : ℕ) (w : List ℕ) (q : List Float) (near_at nears far_at fars a b : ℕ) → m.points ≡ first_points n q
    → Named n w q near_at nears far_at fars a b
    → take y.pairs (onto trial_before (flat_map (λ c. flat_map (trial_at y q a b c) (part w far_at fars)) (part w near_at nears)) [])
    ≡ trials y m a b (part w near_at nears) (part w far_at fars)
unfolding trials
best_of y m n w q near_at nears far_at fars a b e k =
    let cs = part w near_at nears in
    let ds = part w far_at fars in
    let c_below = part_below w near_at nears n k.near k.near_below in
    let d_below = part_below w far_at fars n k.far k.far_below in
    let each : flat_map (λ c. flat_map (trial_at y q a b c) ds) cs ≡ flat_map (λ c. flat_map (λ d. trial y m a b c d) ds) cs =
    flat_map_same _ _ cs (λ i u. flat_map_same _ _ ds (λ j v. sym (trial_mesh y m n q e a b _ _ k.a_below k.b_below (c_below i u) (d_below j v)))) in
    ap (λ (t : List Trial). take y.pairs (onto trial_before t [])) each
    ∙ ap (take y.pairs) (sym (sort_onto trial_before (flat_map (λ c. flat_map (λ d. trial y m a b c d) ds) cs)))
