-- What the side nodes at both ends say of the attempt.
use mathlib.Core.Path.{◌≡◌, refl, ap, sym, ◌∙◌, subst}
use mathlib.Core.Bool.{false}
use mathlib.Core.List.{List, [], ◌∷◌}
use Prim.{absurd}
use Prim.Native.Nat.{ℕ, suc, ◌+◌, ◌-◌, ◌*◌, ◌<◌, ◌≤◌}
use native.Mathlib.Omega.{arith}
use lib.ListN.{length, get_or, drop}
use lib.Seq.{drop-drop}
use lib.Ieee.{Float}
use Rattle.std.specs.Prelude.{Some, None, Ok, Err}
use Rattle.definition.specs.Counts.{Spent, Placement, Want}
use Rattle.definition.specs.Numbers.{Settings, second_turn}
use Rattle.definition.specs.Cells.{Mesh, this_round}
use Rattle.definition.specs.Call.{first_points}
use Rattle.definition.specs.Trials.{Trial, trials}
use Rattle.definition.specs.Attempt.{Attempt, placed, refused, ended, Stance, Sides, found, missing, overfull, side_nodes, try_trials, try_both, try_first}
use Rattle.laws.specs.Numbers.{clash}
use Rattle.laws.specs.Frames.{stays_refl, stays_trans}
use Rattle.joints.specs.Table.{Locks}
use Rattle.traces.specs.Log.{Logged}
use Rattle.rules.specs.declared.Rules.{Rules}
use Rattle.rules.specs.Settings.{quality_of, settings_of}
use Rattle.cells.specs.Layout.{Sizes, near_at, far_at, refused_at}
use Rattle.cells.specs.declared.counters.Counters.{Counters}
use Rattle.account.specs.Valid.{Valid}
use Rattle.cells.proofs.Slots.{sizes}
use Rattle.edge_candidates.specs.Wanted.{turn}
use Rattle.trials.specs.Kept.{Stands as StandsAt, Keeps as KeepsTrials}
use Rattle.trials.specs.Ranked.{part, length_part, part_at, Named}
use Rattle.trials.specs.Nodes.{Sound, names_of, sound}
use Rattle.outcomes.specs.Ready.{Ready, Behind}
use Rattle.outcomes.specs.Ends.{only_inserted, Plain, Left, AttemptTo, attempt_mesh, shortage_of, end_of, end_for}
use Rattle.outcomes.specs.declared.Kind.TheVariants as kinds
use Rattle.outcomes.specs.declared.Shortage.{Shortage}
use Rattle.outcomes.specs.declared.End.{End}
use Rattle.outcomes.specs.declared.End.TheVariants as ends
use Rattle.outcomes.specs.declared.Tried.{Tried}
use Rattle.side_nodes.specs.Sides.{CanSeek, ListedAt, LeftAt, SidesAre, SidesTo, sides_mesh}
use Rattle.side_nodes.specs.declared.side.Side.{Side}
use Rattle.pairs.specs.Pair.{CanPair, PairsTo}
use Rattle.pairs.proofs.Orders.{spent_is}
use Rattle.meshes.proofs.Valid.{valid}
use Rattle.try_quad.specs.Tries.{TriedTo, Ends, Both, First, LocksIn, LogsIn}
use Rattle.try_quad.proofs.Points.{AttemptOn, trials_on}

-- ---- lists

-- lists of the same length and elements
same_list : (l k : List ℕ) → length l ≡ length k → ((i : ℕ) → i < length k → get_or l i 0 ≡ get_or k i 0) → l ≡ k
same_list [] [] e h = refl
same_list [] (y ∷ k) e h = clash (absurd (omega (arith, e)))
same_list (x ∷ l) [] e h = clash (absurd (omega (arith, e)))
same_list (x ∷ l) (y ∷ k) e h =
    let a : x ≡ y = h 0 (omega arith) in
    let b : l ≡ k = same_list l k (omega (arith, e)) (λ i u. h (suc i) (omega arith)) in
    cc

same_part : (w w' : List ℕ) (at k : ℕ) → length w' ≡ length w → at + k ≤ length w → ((i : ℕ) → at ≤ i → i < at + k → get_or w' i 0 ≡ get_or w i 0) → part w' at k ≡ part w at k
same_part w w' at k e f h =
    let l = length_part w at k f in
    same_list (part w' at k) (part w at k) (length_part w' at k (omega arith) ∙ sym l)
    (λ i u. let v : i < k = omega (arith, l, u) in part_at w' at k i v ∙ h (at + i) (omega arith) (omega arith) ∙ sym (part_at w at k i v))

-- ---- the slice of points

pub behind_more : (q q' : List Float) (n k : ℕ) → n ≤ k → Behind q q' n → Behind q q' k
behind_more q q' n k h b =
    let e : 3 * n + (3 * k - 3 * n) ≡ 3 * k = omega arith in
    record {
      len = b.len;
      rest = subst (λ (z : ℕ). drop z q' ≡ drop z q) e (sym (drop-drop (3 * k - 3 * n) (3 * n) q') ∙ ap (drop (3 * k - 3 * n)) b.rest ∙ drop-drop (3 * k - 3 * n) (3 * n) q);
    }

pub behind_both : (q q1 q2 : List Float) (n : ℕ) → Behind q q1 n → Behind q1 q2 n → Behind q q2 n
behind_both q q1 q2 n a b = record { len = b.len ∙ a.len; rest = b.rest ∙ a.rest }

-- ---- which of the definition's answers it is

module _ (w : List ℕ) (q q' : List Float) (rules : Rules) (at : ℕ) (c : Counters) (r : Side) where
  pub record IsFound (k : ℕ) (x : Sides) : Type 0 where
    pub cs : List ℕ
    pub n : Spent
    pub m : Mesh
    pub is : x ≡ found cs n m
    pub listed : ListedAt w at k r.counters.points cs
    pub left : LeftAt w q q' rules c n m r

  pub at_found : (k : ℕ) (x : Sides) → SidesAre w q q' rules at c x r → r.found ≡ Ok (Some k) → IsFound k x
  at_found k (found cs n m) h e =
      let same : h.0.0 ≡ k = (let a = h.0.1 in cc) in
      record { cs = cs; n = n; m = m; is = refl; listed = subst (λ (z : ℕ). ListedAt w at z r.counters.points cs) same h.0.2; left = h.1 }
  at_found k (missing n m) h e = clash (let a = h.0 in cc)
  at_found k (overfull wt n m) h e = clash (let a = h.0 in cc)

  left_plain : (n : Spent) (m : Mesh) (e : End) (t : Tried) → LeftAt w q q' rules c n m r → Plain e r.counters r.at r.inserted 0 0 t → Left w q q' rules c n m t
  left_plain n m e t l h =
      record {
        ready = subst (λ (d : Counters). Ready w q' rules d m) (sym h.counters) l.ready;
        spent = spent_is r.inserted 0 0 t h.inserted h.trials h.flips ∙ l.spent;
        attempts = ap (λ (d : Counters). d.attempts) h.counters ∙ l.attempts;
        behind = l.behind;
      }

  -- an attempt that goes on only where side nodes are found
  module _ (A : Sides → Attempt) (am : (n : Spent) (m : Mesh) → A (missing n m) ≡ refused Placement n m) (ao : (o : Want) (n : Spent) (m : Mesh) → A (overfull o n m) ≡ ended o n m) (base tr : List ℕ) (t : Tried) where
    -- nothing more is done
    at_once : (x : Sides) (y : Attempt) (e : End) → A x ≡ y → sides_mesh x ≡ attempt_mesh y → Logged base tr r.at (sides_mesh x) → Plain e r.counters r.at r.inserted 0 0 t → AttemptTo w q q' rules c y t
        → TriedTo w w q q' base tr rules c (A x) t
    at_once x y e i same l k z =
        subst (λ (o : Attempt). TriedTo w w q q' base tr rules c o t) (sym i) (record {
          is = z;
          beyond = stays_refl w (refused_at rules.lay.slots rules.lay.points) (near_at rules.lay.slots rules.lay.points);
          log = subst (λ (m : Mesh). Logged base tr t.at m) same (subst (λ (n : ℕ). Logged base tr n (sides_mesh x)) (sym k.at) l);
        })

    pub if_missing : (x : Sides) → SidesAre w q q' rules at c x r → Logged base tr r.at (sides_mesh x) → r.found ≡ Ok None → Plain (ends.Refused kinds.Placement) r.counters r.at r.inserted 0 0 t → TriedTo w w q q' base tr rules c (A x) t
    unfolding end_of
    if_missing (found cs n m) h l e k = clash (let a = h.0.1 in cc)
    if_missing (missing n m) h l e k = at_once (missing n m) (refused Placement n m) (ends.Refused kinds.Placement) (am n m) refl l k (k.end, left_plain n m (ends.Refused kinds.Placement) t h.1 k)
    if_missing (overfull wt n m) h l e k = clash (let a = h.0 in cc)

    pub if_short : (x : Sides) (short : Shortage) → SidesAre w q q' rules at c x r → Logged base tr r.at (sides_mesh x) → r.found ≡ Err short → Plain (ends.Short short) r.counters r.at r.inserted 0 0 t → TriedTo w w q q' base tr rules c (A x) t
    unfolding end_for
    if_short (found cs n m) short h l e k = clash (let a = h.0.1 in cc)
    if_short (missing n m) short h l e k = clash (let a = h.0 in cc)
    if_short (overfull wt n m) short h l e k =
        let same : short ≡ shortage_of wt = (let a = h.0 in cc) in
        at_once (overfull wt n m) (ended wt n m) (ends.Short short) (ao wt n m) refl l k (k.end ∙ ap ends.Short same, left_plain n m (ends.Short short) t h.1 k)

module _ (g : Settings) (f : Stance) where
  pub both_missing : (cs : List ℕ) (n : Spent) (m : Mesh) → try_both g f cs (missing n m) ≡ refused Placement n m
  unfolding try_both
  both_missing cs n m = refl

  pub both_overfull : (cs : List ℕ) (o : Want) (n : Spent) (m : Mesh) → try_both g f cs (overfull o n m) ≡ ended o n m
  unfolding try_both
  both_overfull cs o n m = refl

  pub first_missing : (n : Spent) (m : Mesh) → try_first g f (missing n m) ≡ refused Placement n m
  unfolding try_first
  first_missing n m = refl

  pub first_overfull : (o : Want) (n : Spent) (m : Mesh) → try_first g f (overfull o n m) ≡ ended o n m
  unfolding try_first
  first_overfull o n m = refl

-- with what was found, by the edge and its ends
both_eq : (rules : Rules) (f : Stance) (cs ds : List ℕ) (n k : Spent) (m : Mesh) (u v a b : ℕ) → f.edge ≡ (u, v) → f.a ≡ a → f.b ≡ b → k ≡ n
    → try_both (settings_of rules) f cs (found ds n m) ≡ try_trials (settings_of rules) k m (u, v) (trials (quality_of rules.quality) m a b cs ds)
unfolding try_both settings_of
both_eq rules f cs ds n k m u v a b ee ea eb en = rw (ee, ea, eb, en)

first_eq : (rules : Rules) (f : Stance) (cs : List ℕ) (n k : Spent) (m : Mesh) (a b : ℕ) → f.a ≡ a → f.b ≡ b → k ≡ n
    → try_first (settings_of rules) f (found cs n m) ≡ try_both (settings_of rules) f cs (side_nodes (settings_of rules) (turn false) f k m b a)
unfolding try_first second_turn settings_of
first_eq rules f cs n k m a b ea eb en = rw (ea, eb, en)

-- ---- with the side nodes at both ends

module _ {w : List ℕ} {q₀ q : List Float} {rules : Rules} {c₀ : Counters} {u v a b nears : ℕ} {far : Side} {cs : List ℕ} {x : Sides} {many : ℕ}
    (h : Both w q₀ q rules c₀ u v a b nears far cs x) (e : far.found ≡ Ok (Some many)) where
  abbrev pub both_found : IsFound w q₀ q rules (far_at rules.lay.slots rules.lay.points) c₀ far many x
  both_found = at_found w q₀ q rules (far_at rules.lay.slots rules.lay.points) c₀ far many x h.is e

  pub both_lock : {j : List ℕ} → LocksIn j x → Locks j both_found.m.locked
  both_lock l = rw both_found.is at l

  pub both_log : {base tr : List ℕ} {at round : ℕ} → LogsIn base tr at round x → Logged base tr at both_found.m
  both_log {base} {tr} {at} l = subst (λ y. Logged base tr at (sides_mesh y)) both_found.is l.log

  pub both_round : {base tr : List ℕ} {at round : ℕ} → LogsIn base tr at round x → round ≡ this_round both_found.m
  both_round l = l.in_round ∙ ap (λ y. this_round (sides_mesh y)) both_found.is

  pub both_sizes : Sizes rules.lay.slots rules.lay.points
  both_sizes = sizes w rules.lay.slots rules.lay.points both_found.left.ready.rep.room

  points_are : both_found.m.points ≡ first_points far.counters.points q
  points_are = both_found.left.ready.pts.are ∙ ap (λ (z : ℕ). first_points z q) (sym both_found.left.ready.counted.points)

  named : Named far.counters.points w q (near_at rules.lay.slots rules.lay.points) nears (far_at rules.lay.slots rules.lay.points) many a b
  named =
      let y = both_found.left.ready in
      let n : far.counters.points ≤ rules.lay.points = omega (arith, y.counted.points, y.rep.points) in
      record {
        points = omega (arith, n, y.pts.fits);
        a_below = h.ends.first;
        b_below = h.ends.second;
        near = omega (arith, n, h.near.few, y.rep.room.fits);
        near_below = h.near.below;
        far = omega (arith, n, both_found.listed.few, y.rep.room.fits);
        far_below = both_found.listed.below;
      }

  -- with the offsets that were computed
  module _ {na fa : ℕ} (en : na ≡ near_at rules.lay.slots rules.lay.points) (ef : fa ≡ far_at rules.lay.slots rules.lay.points) where
    pub both_named : Named far.counters.points w q na nears fa many a b
    both_named =
        subst (λ (z : ℕ). Named far.counters.points w q z nears fa many a b) (sym en)
        (subst (λ (z : ℕ). Named far.counters.points w q (near_at rules.lay.slots rules.lay.points) nears z many a b) (sym ef) named)

    abbrev pub kept_list : List Trial
    kept_list = trials (quality_of rules.quality) both_found.m a b cs both_found.cs

    lists : trials (quality_of rules.quality) both_found.m a b (part w na nears) (part w fa many) ≡ kept_list
    lists =
        ap (λ (l : List ℕ). trials (quality_of rules.quality) both_found.m a b l (part w fa many)) (ap (λ (z : ℕ). part w z nears) en ∙ h.near.are)
        ∙ ap (λ (l : List ℕ). trials (quality_of rules.quality) both_found.m a b cs l) (ap (λ (z : ℕ). part w z many) ef ∙ both_found.listed.are)

    module _ (scores : List Float) (nodes : List ℕ) (count : ℕ)
        (k : (m : Mesh) (n : ℕ) → m.points ≡ first_points n q → Named n w q na nears fa many a b
        → KeepsTrials scores nodes rules.quality.pairs count (trials (quality_of rules.quality) m a b (part w na nears) (part w fa many))) where
      pub can_pair : CanPair w q rules far.counters u v a b nodes count both_found.m kept_list
      can_pair =
          let y = quality_of rules.quality in
          let kept = k both_found.m far.counters.points points_are both_named in
          record {
            ready = both_found.left.ready;
            up = h.ends.up;
            known = h.ends.known;
            kept = names_of scores nodes rules.quality.pairs count kept_list (subst (λ (l : List Trial). KeepsTrials scores nodes rules.quality.pairs count l) lists kept) h.pairs;
            sound = subst (λ (l : List Trial). (i : ℕ) (x : Trial) → i < length l → StandsAt l i x → Sound far.counters.points a b x) lists
                (sound y both_found.m far.counters.points w q na nears fa many a b both_named);
            first = h.ends.first;
            second = h.ends.second;
            apart = h.ends.apart;
          }

  left_after : (w' : List ℕ) (n : Spent) (m : Mesh) (t : Tried) → m.points ≡ both_found.m.points → Left w' q q rules far.counters n m t → Left w' q₀ q rules c₀ n m t
  left_after w' n m t same l =
      record {
        ready = l.ready;
        spent = l.spent;
        attempts = l.attempts ∙ both_found.left.attempts;
        behind = subst (λ (z : ℕ). Behind q₀ q z) (sym (ap length same)) both_found.left.behind;
      }

  attempt_after : (w' : List ℕ) (y : Attempt) (t : Tried) → AttemptOn both_found.m.points y → AttemptTo w' q q rules far.counters y t → AttemptTo w' q₀ q rules c₀ y t
  attempt_after w' (placed n m k) t o z = (z.0, left_after w' n m t o z.1)
  attempt_after w' (refused why n m) t o z = (z.0, left_after w' n m t o z.1)
  attempt_after w' (ended wt n m) t o z = (z.0, left_after w' n m t o z.1)

  module _ (f : Stance) (ee : f.edge ≡ (u, v)) (ea : f.a ≡ a) (eb : f.b ≡ b) where
    both_is : try_both (settings_of rules) f cs x ≡ try_trials (settings_of rules) (only_inserted far.inserted) both_found.m (u, v) (trials (quality_of rules.quality) both_found.m a b cs both_found.cs)
    both_is =
        ap (try_both (settings_of rules) f cs) both_found.is
        ∙ both_eq rules f cs both_found.cs both_found.n (only_inserted far.inserted) both_found.m u v a b ee ea eb both_found.left.spent

    pub both_to : (w' base t' : List ℕ) (t : Tried)
        → PairsTo w w' q base t' rules far.counters (try_trials (settings_of rules) (only_inserted far.inserted) both_found.m (u, v) (trials (quality_of rules.quality) both_found.m a b cs both_found.cs)) t
        → TriedTo w w' q₀ q base t' rules c₀ (try_both (settings_of rules) f cs x) t
    both_to w' base t' t z =
        record {
          is = subst (λ (y : Attempt). AttemptTo w' q₀ q rules c₀ y t) (sym both_is)
              (attempt_after w' (try_trials (settings_of rules) (only_inserted far.inserted) both_found.m (u, v) (trials (quality_of rules.quality) both_found.m a b cs both_found.cs)) t (trials_on (settings_of rules) (only_inserted far.inserted) both_found.m (u, v) (trials (quality_of rules.quality) both_found.m a b cs both_found.cs)) z.is);
          beyond = record { len = z.keeps.len; same = λ i l _. z.keeps.high i l };
          log = subst (λ (y : Attempt). Logged base t' t.at (attempt_mesh y)) (sym both_is) z.log;
        }

-- ---- with the side nodes at the first end

module _ {w : List ℕ} {q₀ q : List Float} {rules : Rules} {c₀ : Counters} {u v a b seed : ℕ} {near : Side} {x : Sides} {many : ℕ}
    (h : First w q₀ q rules c₀ u v a b seed near x) (e : near.found ≡ Ok (Some many)) where
  abbrev pub first_found : IsFound w q₀ q rules (near_at rules.lay.slots rules.lay.points) c₀ near many x
  first_found = at_found w q₀ q rules (near_at rules.lay.slots rules.lay.points) c₀ near many x h.is e

  pub first_lock : {j : List ℕ} → LocksIn j x → Locks j first_found.m.locked
  first_lock l = rw first_found.is at l

  pub first_log : {base tr : List ℕ} {at round : ℕ} → LogsIn base tr at round x → Logged base tr at first_found.m
  first_log {base} {tr} {at} l = subst (λ y. Logged base tr at (sides_mesh y)) first_found.is l.log

  pub first_round : {base tr : List ℕ} {at round : ℕ} → LogsIn base tr at round x → round ≡ this_round first_found.m
  first_round l = l.in_round ∙ ap (λ y. this_round (sides_mesh y)) first_found.is

  pub first_valid : Valid first_found.m
  first_valid = valid w rules.lay.slots rules.lay.points first_found.m first_found.left.ready.rep

  pub first_sizes : Sizes rules.lay.slots rules.lay.points
  first_sizes = sizes w rules.lay.slots rules.lay.points first_found.left.ready.rep.room

  ends_on : (n : ℕ) → c₀.points ≤ n → Ends n u v a b
  ends_on n l =
      let k = h.ends in
      record { up = k.up; known = omega (arith, l, k.known); first = omega (arith, l, k.first); second = omega (arith, l, k.second); apart = k.apart }

  -- with the offset that was computed
  pub seek_far : {fa : ℕ} → fa ≡ far_at rules.lay.slots rules.lay.points → CanSeek w q rules near.counters fa b a seed near.inserted first_found.m
  seek_far ef =
      let k = ends_on near.counters.points first_found.left.more in
      subst (λ (z : ℕ). CanSeek w q rules near.counters z b a seed near.inserted first_found.m) (sym ef) (record {
        ready = first_found.left.ready;
        first = k.second;
        second = k.first;
        apart = λ z. k.apart (sym z);
        seeded = h.seeded;
        from = omega arith;
        to = omega arith;
        few = omega (arith, h.few);
      })

  left_both : (w' : List ℕ) (q' : List Float) (n : Spent) (m : Mesh) (r : Side) → LeftAt w' q q' rules near.counters n m r → LeftAt w' q₀ q' rules c₀ n m r
  left_both w' q' n m r l =
      let y = first_found.left in
      let k : length first_found.m.points ≤ length m.points = omega (arith, y.ready.counted.points, l.ready.counted.points, l.more) in
      record {
        ready = l.ready;
        spent = l.spent;
        attempts = l.attempts ∙ y.attempts;
        more = omega (arith, y.more, l.more);
        behind = behind_both q₀ q q' (length m.points) (behind_more q₀ q (length first_found.m.points) (length m.points) k y.behind) l.behind;
      }

  sides_both : (w' : List ℕ) (q' : List Float) (at : ℕ) (y : Sides) (r : Side) → SidesAre w' q q' rules at near.counters y r → SidesAre w' q₀ q' rules at c₀ y r
  sides_both w' q' at (found ds n m) r z = (z.0, left_both w' q' n m r z.1)
  sides_both w' q' at (missing n m) r z = (z.0, left_both w' q' n m r z.1)
  sides_both w' q' at (overfull wt n m) r z = (z.0, left_both w' q' n m r z.1)

  sides_more : (w' : List ℕ) (q' : List Float) (at : ℕ) (y : Sides) (r : Side) → SidesAre w' q q' rules at near.counters y r → near.counters.points ≤ r.counters.points
  sides_more w' q' at (found ds n m) r z = z.1.more
  sides_more w' q' at (missing n m) r z = z.1.more
  sides_more w' q' at (overfull wt n m) r z = z.1.more

  module _ {fa : ℕ} {w' : List ℕ} {q' : List Float} {base t' : List ℕ} {y : Sides} {far : Side} (ef : fa ≡ far_at rules.lay.slots rules.lay.points) (z₀ : SidesTo w w' q q' base t' rules fa near.counters y far) where
    z : SidesTo w w' q q' base t' rules (far_at rules.lay.slots rules.lay.points) near.counters y far
    z = subst (λ (n : ℕ). SidesTo w w' q q' base t' rules n near.counters y far) ef z₀

    near_in : near_at rules.lay.slots rules.lay.points + many ≤ far_at rules.lay.slots rules.lay.points
    near_in = let k = first_found.left.ready in omega (arith, first_found.listed.few, k.counted.points, k.rep.points)

    near_still : ListedAt w' (near_at rules.lay.slots rules.lay.points) many far.counters.points first_found.cs
    near_still =
        let l = first_found.listed in
        let k = first_found.left.ready.rep.room.fits in
        let more = sides_more w' q' (far_at rules.lay.slots rules.lay.points) y far z.is in
        record {
          are = same_part w w' (near_at rules.lay.slots rules.lay.points) many z.len (omega (arith, near_in, k)) (λ i o t. z.before i (omega (arith, o)) (omega (arith, t, near_in))) ∙ l.are;
          few = omega (arith, l.few, more);
          below = λ i t.
              let o = z.before (near_at rules.lay.slots rules.lay.points + i) (omega arith) (omega (arith, t, near_in)) in
              let g = l.below i t in
              omega (arith, o, g, more);
        }

    pub both_of : Both w' q₀ q' rules c₀ u v a b many far first_found.cs y
    both_of =
        record {
          is = sides_both w' q' (far_at rules.lay.slots rules.lay.points) y far z.is;
          near = near_still;
          ends = ends_on far.counters.points (omega (arith, first_found.left.more, sides_more w' q' (far_at rules.lay.slots rules.lay.points) y far z.is));
          pairs = h.pairs;
        }

    module _ (f : Stance) (ea : f.a ≡ a) (eb : f.b ≡ b) where
      first_is : try_first (settings_of rules) f x ≡ try_both (settings_of rules) f first_found.cs (side_nodes (settings_of rules) (turn false) f (only_inserted near.inserted) first_found.m b a)
      first_is =
          ap (try_first (settings_of rules) f) first_found.is
          ∙ first_eq rules f first_found.cs first_found.n (only_inserted near.inserted) first_found.m a b ea eb first_found.left.spent

      pub first_to : y ≡ side_nodes (settings_of rules) (turn false) f (only_inserted near.inserted) first_found.m b a → (w2 t2 : List ℕ) (t : Tried)
          → TriedTo w' w2 q₀ q' base t2 rules c₀ (try_both (settings_of rules) f first_found.cs y) t
          → TriedTo w w2 q₀ q' base t2 rules c₀ (try_first (settings_of rules) f x) t
      first_to ey w2 t2 t k =
          let same = sym (first_is ∙ ap (try_both (settings_of rules) f first_found.cs) (sym ey)) in
          record {
            is = subst (λ (o : Attempt). AttemptTo w2 q₀ q' rules c₀ o t) same k.is;
            beyond = stays_trans w w' w2 (refused_at rules.lay.slots rules.lay.points) (near_at rules.lay.slots rules.lay.points) (record { len = z.len; same = λ i l o. z.before i l (omega (arith, o)) }) k.beyond;
            log = subst (λ (o : Attempt). Logged base t2 t.at (attempt_mesh o)) same k.log;
          }
