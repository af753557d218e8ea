-- The nodes of the trials, for those who go on with them: a, b and two side nodes, all apart.
use Rattle.std.specs.Prelude.{◌≡◌, refl, false, ◌||◌, ℕ, zero, suc, ◌≤◌, ◌<◌, eqb, length, take, get_or, Float}
use Rattle.std.proofs.Common.{ap, sym, subst, ◌∙◌, le_of_suc-le-suc, not-suc-le-zero, arith}
use mathlib.Core.List.{List, [], ◌∷◌}
use Rattle.std.proofs.lemmas.Bool.{eqb-false}
use Rattle.definition.specs.Account.{All}
use Rattle.definition.specs.Cells.{Mesh, new_quad}
use Rattle.definition.specs.Lists.{flat_map, any, contains}
use Rattle.definition.specs.Metrics.{passes, score}
use Rattle.definition.specs.Numbers.{Quality}
use Rattle.definition.specs.Trials.{Trial, rated, metrics_of, trial, trial_before, trials}
use Rattle.laws.specs.Bools.{cond_ok, none_left, none_right}
use Rattle.laws.specs.Lists.{all_append}
use Rattle.laws.specs.Sorts.{all_sort}
use Rattle.trials.specs.Kept.{Keeps, Stands, length_listed, listed_at, quad_at, room, row}
use Rattle.trials.specs.Ranked.{Named, part, part_below}

-- ---- the array of nodes alone

-- the list has k trials, and the nodes of each stand in the array
pub record Names (nodes : List ℕ) (k : ℕ) (l : List Trial) : Type 0 where
  pub few : k ≤ room
  pub count : k ≡ length l
  pub quads : (i : ℕ) (x : Trial) → i < k → Stands l i x → x.nodes ≡ quad_at nodes i

pub names_of : (scores : List Float) (nodes : List ℕ) (most k : ℕ) (l : List Trial) → Keeps scores nodes most k l → most ≤ room → Names nodes k l
unfolding row
names_of scores nodes most k l h u =
    record {
      few = omega arith;
      count = sym (length_listed scores nodes k) ∙ ap length h.list;
      quads = λ i x v s. ap (λ (t : Trial). t.nodes) (sym (s.at x) ∙ ap (λ (t : List Trial). get_or t i x) (sym h.list) ∙ listed_at scores nodes k i x v);
    }

-- ---- one trial

-- the quad is a, b and two nodes below n, no two the same but for a and b
pub record Sound (n a b : ℕ) (t : Trial) : Type 0 where
  pub first : t.nodes.n0 ≡ a
  pub second : t.nodes.n1 ≡ b
  pub third_below : t.nodes.n2 < n
  pub fourth_below : t.nodes.n3 < n
  pub third_not_a : t.nodes.n2 ≡ a → ⊥
  pub third_not_b : t.nodes.n2 ≡ b → ⊥
  pub third_not_fourth : t.nodes.n2 ≡ t.nodes.n3 → ⊥
  pub fourth_not_a : t.nodes.n3 ≡ a → ⊥
  pub fourth_not_b : t.nodes.n3 ≡ b → ⊥

-- ---- what holds of each trial holds of each that is kept

module _ (P : Trial → Type 0) where
  pub all_take : (n : ℕ) (l : List Trial) → All P l → All P (take n l)
  all_take zero l h = tt
  all_take (suc n) [] h = tt
  all_take (suc n) (x ∷ xs) h = (h.0, all_take n xs h.1)

  pub all_flat_map : (f : ℕ → List Trial) (l : List ℕ) → ((i : ℕ) → i < length l → All P (f (get_or l i 0))) → All P (flat_map f l)
  unfolding flat_map
  all_flat_map f [] h = tt
  all_flat_map f (x ∷ xs) h = all_append P (f x) (flat_map f xs) (h 0 (omega arith)) (all_flat_map f xs (λ i u. h (suc i) (omega arith)))

  all_stands : (l : List Trial) (i : ℕ) (x : Trial) → i < length l → Stands l i x → All P l → P x
  all_stands [] i x h s k = absurd (not-suc-le-zero h)
  all_stands (y ∷ ys) zero x h s k = subst P (s.at y) k.0
  all_stands (y ∷ ys) (suc i) x h s k = all_stands ys i x (le_of_suc-le-suc h) (record { at = s.at }) k.1

-- ---- one pair

-- the four nodes by what `contains` found
made_sound : (n a b c d : ℕ) (score : Float) → c < n → d < n → (contains (a ∷ b ∷ []) c || contains (a ∷ b ∷ c ∷ []) d) ≡ false
    → Sound n a b (record { score = score; nodes = new_quad a b d c })
unfolding contains any new_quad
made_sound n a b c d score hc hd e =
    let p = none_left (eqb c a || (eqb c b || false)) _ e in
    let q = none_right (eqb c a || (eqb c b || false)) _ e in
    let r = none_right (eqb d a) _ q in
    record {
      first = refl;
      second = refl;
      third_below = hd;
      fourth_below = hc;
      third_not_a = eqb-false d a (none_left _ _ q);
      third_not_b = eqb-false d b (none_left _ _ r);
      third_not_fourth = eqb-false d c (none_left _ _ (none_right (eqb d b) _ r));
      fourth_not_a = eqb-false c a (none_left _ _ p);
      fourth_not_b = eqb-false c b (none_left _ _ (none_right (eqb c a) _ p));
    }

pair_sound : (y : Quality) (m : Mesh) (n a b c d : ℕ) → c < n → d < n → All (Sound n a b) (trial y m a b c d)
unfolding trial rated
pair_sound y m n a b c d hc hd =
    let k = metrics_of m (new_quad a b d c) in
    let P : List Trial → Type 0 = All (Sound n a b) in
    cond_ok P _ [] _ (λ _. tt) (λ e. cond_ok P (passes y k) (record { score = score k; nodes = new_quad a b d c } ∷ []) [] (λ _. (made_sound n a b c d (score k) hc hd e, tt)) (λ _. tt))

-- ---- all pairs

-- each of the best trials is sound
pub sound : (y : Quality) (m : Mesh) (n : ℕ) (w : List ℕ) (q : List Float) (near_at nears far_at fars a b : ℕ) → Named n w q near_at nears far_at fars a b
    → (i : ℕ) (x : Trial) → i < length (trials y m a b (part w near_at nears) (part w far_at fars))
    → Stands (trials y m a b (part w near_at nears) (part w far_at fars)) i x → Sound n a b x
unfolding trials
sound y m n w q near_at nears far_at fars a b k i x h s =
    let cs = part w near_at nears in
    let ds = part w far_at fars in
    let P = Sound n a b in
    let c_below = part_below w near_at nears n k.near k.near_below in
    let d_below = part_below w far_at fars n k.far k.far_below in
    let each = all_flat_map P (λ c. flat_map (λ d. trial y m a b c d) ds) cs (λ i u.
    all_flat_map P (λ d. trial y m a b _ d) ds (λ j v. pair_sound y m n a b _ _ (c_below i u) (d_below j v))) in
    all_stands P _ i x h s (all_take P y.pairs _ (all_sort trial_before P _ each))
