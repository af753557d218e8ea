-- What an insertion's answer says of the side nodes.
use Rattle.std.specs.Prelude.{◌≡◌, ◌+◌, ◌*◌, ◌^◌, ◌<◌, ◌≤◌, ◌∷◌, Some, None, Ok, Err}
use Rattle.laws.specs.Kit.{refl, sym, ◌∙◌, ap, subst, Bool, true, false, ℕ, zero, suc, arith, not-suc-le-zero, List, [], length, get_or, set, take, drop, length-set, get_or-set_same, get_or-set_other, Float}
use native.Mathlib.Nat.{le_of_suc-le-suc}
use native.Mathlib.Numerals.{add-one}
use Rattle.definition.specs.Counts.{Want, Spent, inserting}
use Rattle.definition.specs.Numbers.{Settings, Turn}
use Rattle.definition.specs.Plane.{Vec}
use Rattle.definition.specs.Cells.{Mesh, node_at}
use Rattle.definition.specs.Candidates.{candidates}
use Rattle.definition.specs.Insertion.{Inserted, nowhere, inserted, full, insert_along}
use Rattle.definition.specs.Attempt.{Stance, Sides, found, missing, sides_by, sides_from, side_nodes}
use Rattle.laws.specs.Numbers.{clash}
use Rattle.laws.specs.Frames.{under_set}
use Rattle.laws.specs.Lists.{nothing}
use Rattle.rules.specs.declared.Rules.{Rules}
use Rattle.rules.specs.Settings.{quality_of, settings_of, quality_is}
use Rattle.cells.specs.Layout.{mesh_end}
use Rattle.cells.specs.Rep.{Pts}
use Rattle.cells.specs.Counting.{Few, Split}
use Rattle.cells.specs.declared.counters.Counters.{Counters}
use Rattle.cells.proofs.Frames.{rep_under}
use Rattle.live_regions.specs.Stack.{Lent}
use Rattle.traces.specs.Log.{Logged}
use Rattle.outcomes.specs.Ends.{only_inserted, shortage_of}
use Rattle.outcomes.specs.declared.Shortage.{Shortage}
use Rattle.outcomes.specs.Ready.{Ready}
use Rattle.insertion.specs.Insert.{CanInsert, Grown, Same, Beyond}
use Rattle.insertion.specs.Places.{PlaceIs}
use Rattle.candidates.specs.Choice.{CanChoose, Spare}
use Rattle.side_nodes.specs.Sides.{CanSeek, Goes, ListedAt, LeftAt, sides_mesh, SidesAre, SidesTo}
use Rattle.side_nodes.specs.declared.side.Side.{Side}

-- one element of a list
take_one : (l : List ℕ) (i a : ℕ) → i < length l → get_or l i 0 ≡ a → take 1 (drop i l) ≡ a ∷ []
take_one [] i a h e = absurd (not-suc-le-zero h)
take_one (x ∷ l) zero a h e = ap (λ (z : ℕ). z ∷ []) e
take_one (x ∷ l) (suc i) a h e = take_one l i a (le_of_suc-le-suc h) e

-- ---- which of the definition's answers it is

module _ (w' : List ℕ) (q q' : List Float) (base t t' : List ℕ) (s p used n : ℕ) (bucket : Float) (m : Mesh) where
  pub at_nowhere : (x : Inserted) → PlaceIs w' q q' base t t' s p used n bucket m x (Ok None) → (x ≡ nowhere) × Same w' q q' t t' s p m
  at_nowhere nowhere h = (refl, h.1)
  at_nowhere (inserted v m') h = clash (let e = h.is in cc)
  at_nowhere (full wt) h = clash (let e = h.0 in cc)

  pub at_full : (x : Inserted) (e : Shortage) → PlaceIs w' q q' base t t' s p used n bucket m x (Err e) → (wt : Want) × (x ≡ full wt) × (e ≡ shortage_of wt) × Same w' q q' t t' s p m
  at_full nowhere e h = clash (let z = h.0 in cc)
  at_full (inserted v m') e h = clash (let z = h.is in cc)
  at_full (full wt) e h = (wt, refl, (let z = h.0 in cc), h.1)

  pub at_node : (x : Inserted) (at : ℕ) → PlaceIs w' q q' base t t' s p used n bucket m x (Ok (Some at))
      → (m' : Mesh) × (x ≡ inserted n m') × Grown w' q q' s p used n bucket m m' × Logged base t' at m'
  at_node nowhere at h = clash (let e = h.0 in cc)
  at_node (inserted v m') at h = (m', ap (λ (k : ℕ). inserted k m') h.node, h.grown, subst (λ (k : ℕ). Logged base t' k m') (sym (let e = h.is in cc)) h.log)
  at_node (full wt) at h = clash (let e = h.0 in cc)

-- the same words and the same mesh
log_as : (base t : List ℕ) (at at' : ℕ) (m m' : Mesh) → Logged base t at m → at' ≡ at → m' ≡ m → Logged base t at' m'
log_as base t at at' m m' g f o = subst (λ (z : ℕ). Logged base t z m') (sym f) (subst (λ (z : Mesh). Logged base t at z) (sym o) g)

-- ---- what is asked

module _ (w : List ℕ) (q : List Float) (rules : Rules) (c : Counters) (near a other seed k : ℕ) (m : Mesh) (h : CanSeek w q rules c near a other seed k m) where
  pub lent_is : Lent w q rules.lay.slots rules.lay.points c.used m
  lent_is = record { rep = h.ready.rep; pts = h.ready.pts; given = h.ready.counted.used }

  pub can_insert : CanInsert w q rules.lay.slots rules.lay.points c.used c.points rules.bucket seed a m
  can_insert = record { lent = lent_is; count = h.ready.counted.points; side = h.ready.side; seeded = h.seeded; first = h.first }

  pub few_counters : Few c
  few_counters =
      let r = h.ready.rep in
      let l = h.ready.live in
      let e = h.ready.counted.used in
      let f = h.ready.counted.points in
      record {
        live = omega (arith, r.used, h.ready.small.slots);
        used = omega (arith, r.used, h.ready.small.slots);
        points = omega (arith, r.points, h.ready.small.points);
        attempts = h.ready.attempts;
      }

  -- the mesh stayed
  module _ (w' : List ℕ) (q' : List Float) (t t' : List ℕ) (b : Beyond w w' rules.lay.slots rules.lay.points) (y : Same w' q q' t t' rules.lay.slots rules.lay.points m) (r : Side) (n : r.inserted ≡ k) (e : r.counters ≡ c) where
    ready_same : Ready w' q' rules r.counters m
    ready_same =
        let o = h.ready in
        subst (λ (d : Counters). Ready w' q' rules d m) (sym e)
        (record { rep = y.rep; pts = subst (λ (z : List Float). Pts z rules.lay.points m) (sym y.text) o.pts; side = o.side; counted = o.counted; live = o.live; attempts = o.attempts; small = o.small })

    pub left_same : LeftAt w' q q' rules c (only_inserted k) m r
    left_same =
        record {
          ready = ready_same;
          spent = ap only_inserted n;
          attempts = ap (λ (d : Counters). d.attempts) e;
          more = subst (λ (d : Counters). c.points ≤ d.points) (sym e) (omega arith);
          behind = record { len = ap length y.text; rest = ap (λ (z : List Float). drop (3 * length m.points) z) y.text };
        }

    pub same_to : (base : List ℕ) (at : ℕ) → Logged base t at m → r.at ≡ at → (x : Sides) → sides_mesh x ≡ m → SidesAre w' q q' rules near c x r → SidesTo w w' q q' base t' rules near c x r
    same_to base at g f x o i =
        record {
          is = i;
          len = b.len;
          before = λ j l u. b.same j l (omega (arith, h.to));
          log = subst (λ (z : List ℕ). Logged base z r.at (sides_mesh x)) (sym y.trace) (log_as base t at r.at m (sides_mesh x) g f o);
        }

  -- a node was inserted
  module _ (w' : List ℕ) (q' : List Float) (b : Beyond w w' rules.lay.slots rules.lay.points) (m' : Mesh) (g : Grown w' q q' rules.lay.slots rules.lay.points c.used c.points rules.bucket m m') (d : Counters) (sp : Split c d) where
    abbrev put : List ℕ
    put = set w' near c.points

    at_in : near < length w'
    at_in = let f = h.ready.rep.room.fits in omega (arith, h.to, b.len, f, h.first, h.ready.rep.points, h.ready.counted.points)

    ready_grown : Ready put q' rules d m'
    ready_grown =
        let y = h.ready in
        record {
          rep = rep_under w' put rules.lay.slots rules.lay.points (under_set w' (mesh_end rules.lay.slots rules.lay.points) near c.points (omega (arith, h.from))) m' g.rep;
          pts = g.pts;
          side = g.side;
          counted = record {
            live = omega (arith, sp.live, y.counted.live, g.live);
            used = omega (arith, sp.used, g.used);
            points = omega (arith, sp.points, g.count);
          };
          live = omega (arith, sp.live, sp.used, y.live);
          attempts = subst (λ (z : ℕ). z < 2 ^ 32) (sym sp.attempts) y.attempts;
          small = y.small;
        }

    put_here : get_or put near 0 ≡ c.points
    put_here = get_or-set_same w' near c.points 0 at_in

    module _ (r : Side) (f : r.found ≡ Ok (Some 1)) (n : r.inserted ≡ k + 1) (e : r.counters ≡ d) where
      pub left_grown : LeftAt put q q' rules c (inserting (only_inserted k)) m' r
      unfolding inserting
      left_grown =
          record {
            ready = subst (λ (z : Counters). Ready put q' rules z m') (sym e) ready_grown;
            spent = ap only_inserted (n ∙ add-one k);
            attempts = ap (λ (z : Counters). z.attempts) e ∙ sp.attempts;
            more = subst (λ (z : Counters). c.points ≤ z.points) (sym e) (omega (arith, sp.points));
            behind = record { len = g.len; rest = subst (λ (z : ℕ). drop (3 * z) q' ≡ drop (3 * z) q) (sym g.count) g.rest };
          }

      listed_one : ListedAt put near 1 r.counters.points (c.points ∷ [])
      listed_one =
          let o = take_one put near c.points (subst (λ (z : ℕ). near < z) (sym (length-set w' near c.points)) at_in) put_here in
          let many : r.counters.points ≡ c.points + 1 = ap (λ (z : Counters). z.points) e ∙ sp.points in
          record {
            are = o;
            few = omega (arith, many);
            below = λ i u. subst (λ (z : ℕ). get_or put z 0 < r.counters.points) (omega arith) (subst (λ (z : ℕ). z < r.counters.points) (sym put_here) (omega (arith, many)));
          }

      pub grown_to : (base t' : List ℕ) → Logged base t' r.at m' → SidesTo w put q q' base t' rules near c (found (c.points ∷ []) (inserting (only_inserted k)) m') r
      grown_to base t' v =
          record {
            is = ((1, f, listed_one), left_grown);
            len = length-set w' near c.points ∙ b.len;
            before = λ j l u. get_or-set_other w' near j c.points 0 (omega arith) ∙ b.same j l (omega (arith, h.to));
            log = v;
          }

-- ---- the definition's side nodes, by the candidates

module _ (g : Settings) (f : Stance) (n : Spent) (m : Mesh) (a : ℕ) where
  pub from_found : (cs : List ℕ) → 0 < length cs → sides_from g f n m a cs ≡ found cs n m
  unfolding sides_from
  from_found [] h = absurd (not-suc-le-zero h)
  from_found (x ∷ cs) h = refl

  pub from_missing : (cs : List ℕ) → length cs ≡ 0 → f.mismatch ≡ false → sides_from g f n m a cs ≡ missing n m
  unfolding sides_from
  from_missing cs h e = ap (sides_from g f n m a) (nothing cs h) ∙ rw e

  pub from_insertion : (cs : List ℕ) → length cs ≡ 0 → f.mismatch ≡ true → sides_from g f n m a cs ≡ sides_by n m (insert_along g m f.seed (node_at m a) f.normal f.target)
  unfolding sides_from
  from_insertion cs h e = ap (sides_from g f n m a) (nothing cs h) ∙ rw e

-- what an attempt goes by, put in
pub nodes_of : (rules : Rules) (t : Turn) (f : Stance) (n : Spent) (m : Mesh) (a other seed : ℕ) (normal : Vec) (target : Float) (off : Bool) → Goes f seed normal target off
    → side_nodes (settings_of rules) t f n m a other ≡ sides_from (settings_of rules) f n m a (candidates (quality_of rules.quality) t m a other seed normal target)
unfolding side_nodes
nodes_of rules t f n m a other seed normal target off h = rw (quality_is rules, h.from, h.along, h.far)

pub insertion_of : (g : Settings) (f : Stance) (m : Mesh) (a seed : ℕ) (normal : Vec) (target : Float) (off : Bool) → Goes f seed normal target off
    → insert_along g m f.seed (node_at m a) f.normal f.target ≡ insert_along g m seed (node_at m a) normal target
insertion_of g f m a seed normal target off h = rw (h.from, h.along, h.far)

-- ---- after the candidates were looked for

module _ (w : List ℕ) (q : List Float) (rules : Rules) (c : Counters) (near a other seed k : ℕ) (m : Mesh) (h : CanSeek w q rules c near a other seed k m) where
  pub can_choose : CanChoose w q rules.lay.slots rules.lay.points c.used c.points near a other seed m
  can_choose =
      record { lent = lent_is w q rules c near a other seed k m h; count = h.ready.counted.points; first = h.first; second = h.second; apart = h.apart; seeded = h.seeded; from = h.from; to = h.to }

  module _ (w' : List ℕ) (z : Spare w w' rules.lay.slots rules.lay.points near) where
    pub ready_spare : Ready w' q rules c m
    ready_spare =
        let y = h.ready in
        record { rep = rep_under w w' rules.lay.slots rules.lay.points (record { len = z.len; low = z.mesh }) m y.rep; pts = y.pts; side = y.side; counted = y.counted; live = y.live; attempts = y.attempts; small = y.small }

    pub seek_again : CanSeek w' q rules c near a other seed k m
    seek_again = record { ready = ready_spare; first = h.first; second = h.second; apart = h.apart; seeded = h.seeded; from = h.from; to = h.to; few = h.few }

    pub left_spare : (r : Side) → r.inserted ≡ k → r.counters ≡ c → LeftAt w' q q rules c (only_inserted k) m r
    left_spare r n e =
        record {
          ready = subst (λ (d : Counters). Ready w' q rules d m) (sym e) ready_spare;
          spent = ap only_inserted n;
          attempts = ap (λ (d : Counters). d.attempts) e;
          more = subst (λ (d : Counters). c.points ≤ d.points) (sym e) (omega arith);
          behind = record { len = refl; rest = refl };
        }

    pub spare_to : (base t : List ℕ) (at : ℕ) → Logged base t at m → (x : Sides) (r : Side) → r.at ≡ at → sides_mesh x ≡ m → SidesAre w' q q rules near c x r → SidesTo w w' q q base t rules near c x r
    spare_to base t at g x r f o i = record { is = i; len = z.len; before = z.before; log = log_as base t at r.at m (sides_mesh x) g f o }

    -- what follows from there on
    pub after_spare : (w2 : List ℕ) (q2 : List Float) (base t : List ℕ) (x : Sides) (r : Side) → SidesTo w' w2 q q2 base t rules near c x r → SidesTo w w2 q q2 base t rules near c x r
    after_spare w2 q2 base t x r v = record { is = v.is; len = v.len ∙ z.len; before = λ j l u. v.before j l u ∙ z.before j l u; log = v.log }
