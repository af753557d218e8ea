-- The front edges of a node by its note.
use Rattle.std.specs.Prelude.{◌≡◌, ◌≢◌, ◌+◌, ◌*◌, ◌<◌, ◌≤◌, ◌∷◌}
use Rattle.laws.specs.Kit.{sym, ◌∙◌, ap, subst, ℕ, arith, dec_le, List, [], length, get_or, set}
use Rattle.rings.proofs.Lists.{Same, same, differ, decide}
use Rattle.definition.specs.Cells.{Mesh, front_at}
use Rattle.cells.specs.Layout.{fronts_at, front_u_at, front_v_at}
use Rattle.cells.specs.Notes.{ends, noted, Fronts}
use Rattle.cells.proofs.Frames.{room_under, rep_under}
use Rattle.meshes.proofs.Valid.{valid}
use Rattle.front_edges.specs.Rows.{Ascending}
use Rattle.front_edges.specs.Runs.{pairs, Run, Beyond}
use Rattle.front_edges.specs.Noting.{CanCopy, CopyTo, CanRepeat, EdgesTo}
use Rattle.front_edges.proofs.Puts.{beyond_refl, beyond_trans, beyond_under, put_done}
use Rattle.front_edges.proofs.Noting.{pairs_length, fronts_are}

-- ---- one edge

pub copy_done : (w : List ℕ) (s p u j k : ℕ) → CanCopy w s p u j k
    → CopyTo w (set (set w (front_u_at s p + k) u) (front_v_at s p + k) (get_or w (fronts_at s p + 2 * u + j) 0)) s p u j k
copy_done w s p u j k can = put_done w s p u (get_or w (fronts_at s p + 2 * u + j) 0) k can.room can.inside

-- ---- all that are noted

module _ (w : List ℕ) (s p u from x : ℕ) (m : Mesh) (can : CanRepeat w s p u from x m) where
  inner : u < p
  inner = omega (arith, can.walk.known, can.walk.rep.points)

  fronts : Fronts m u (noted w s p u)
  fronts = (can.walk.rep.notes u inner).fronts (omega (arith, can.is, can.some))

  are : pairs u (noted w s p u) ≡ front_at m u
  are = fronts_are m (valid w s p m can.walk.rep) u (noted w s p u) can.walk.known fronts

  few : from + length (noted w s p u) ≤ 3 * s
  few = omega (arith, pairs_length u (noted w s p u), ap length are, can.walk.room)

  abbrev first : ℕ
  first = get_or w (fronts_at s p + 2 * u) 0

  abbrev second : ℕ
  second = get_or w (fronts_at s p + 2 * u + 1) 0

  noted_by : (y : ℕ) → x ≡ y → noted w s p u ≡ ends y first second
  noted_by y e = ap (λ (t : ℕ). ends t first second) (sym can.is ∙ e)

  repeated : (w' : List ℕ) (r : ℕ) (vs : List ℕ) → noted w s p u ≡ vs → Beyond w w' s p from → (Ascending vs → Run w' s p u from r vs) → EdgesTo w w' s p u from r m
  repeated w' r vs e b f =
      record {
        vs = vs;
        run = f (subst (λ (l : List ℕ). Ascending l) e fronts.up.1);
        are = subst (λ (l : List ℕ). pairs u l ≡ front_at m u) e are;
        past = record {
          len = b.len;
          below = λ i h. b.firsts i (omega arith);
          firsts = λ i h l. b.firsts i l;
          seconds = b.seconds;
          behind = b.behind;
        };
        rep = rep_under w w' s p (beyond_under w w' s p from b) m can.walk.rep;
      }

  -- there is none
  pub copied_none : x ≡ 1 → EdgesTo w w s p u from from m
  copied_none e =
      repeated w from [] (noted_by 1 e) (beyond_refl w s p from) (λ a. record { len = omega arith; firsts = λ i y z. absurd (omega arith); seconds = tt; up = a })

  -- room for one
  pub can_first : x ≢ 1 → CanCopy w s p u 0 from
  can_first d =
      let us : u < s = (can.walk.rep.notes u inner).inside (omega (arith, can.is, can.some, d)) in
      record { room = can.walk.rep.room; known = inner; low = us; one = omega arith; inside = room }
    where
      room : from < 3 * s
      room = elim (dec_le x 2) [
        | yes l ↦ omega (arith, few, ap length (noted_by 2 (omega (arith, can.some, d))))
        | no l ↦ omega (arith, few, ap length (noted_by 3 (omega (arith, can.is))))
      ]

  module _ (w1 : List ℕ) (g : CopyTo w w1 s p u 0 from) where
    first_is : get_or w1 (front_v_at s p + from) 0 ≡ first
    first_is = let z : fronts_at s p + 2 * u + 0 ≡ fronts_at s p + 2 * u = omega arith in g.second ∙ ap (λ (i : ℕ). get_or w i 0) z

    -- it is the only one
    pub copied_one : x ≡ 2 → EdgesTo w w1 s p u from (from + 1) m
    copied_one e =
        repeated w1 (from + 1) (first ∷ []) (noted_by 2 e) g.beyond (λ a.
        record {
          len = omega arith;
          firsts = λ i y z. let q : i ≡ from = omega arith in ap (λ (t : ℕ). get_or w1 (front_u_at s p + t) 0) q ∙ g.first;
          seconds = (first_is, tt);
          up = a;
        })

    module _ (d1 : x ≢ 1) (d2 : x ≢ 2) where
      three : x ≡ 3
      three = omega (arith, can.is, can.some)

      -- room for another
      pub can_second : CanCopy w1 s p u 1 (from + 1)
      can_second =
          record {
            room = room_under w w1 s p (beyond_under w w1 s p from g.beyond) can.walk.rep.room;
            known = inner;
            low = (can_first d1).low;
            one = omega arith;
            inside = omega (arith, few, ap length (noted_by 3 three));
          }

      pub copied_two : (w2 : List ℕ) → CopyTo w1 w2 s p u 1 (from + 1) → EdgesTo w w2 s p u from (from + 2) m
      copied_two w2 k =
          repeated w2 (from + 2) (first ∷ second ∷ []) (noted_by 3 three) (beyond_trans w w1 w2 s p from (from + 1) (omega arith) g.beyond k.beyond) (λ a.
          record {
            len = omega arith;
            firsts = λ i y z. place i y z (decide i from);
            seconds = (k.beyond.seconds (front_v_at s p + from) (omega arith) (omega arith) ∙ first_is, (second_is, tt));
            up = a;
          })
        where
          second_is : get_or w2 (front_v_at s p + from + 1) 0 ≡ second
          second_is =
              let z : front_v_at s p + from + 1 ≡ front_v_at s p + (from + 1) = omega arith in
              ap (λ (i : ℕ). get_or w2 i 0) z ∙ k.second ∙ g.beyond.firsts (fronts_at s p + 2 * u + 1) (omega (arith, (can_first d1).low))

          place : (i : ℕ) → from ≤ i → i < from + 2 → Same i from → get_or w2 (front_u_at s p + i) 0 ≡ u
          place i y z (same e) =
              ap (λ (t : ℕ). get_or w2 (front_u_at s p + t) 0) e ∙ k.beyond.firsts (front_u_at s p + from) (omega arith) ∙ g.first
          place i y z (differ e) = let q : i ≡ from + 1 = omega arith in ap (λ (t : ℕ). get_or w2 (front_u_at s p + t) 0) q ∙ k.first
