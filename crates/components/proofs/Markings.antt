-- The marks cleared, and the cells listed marked one after the other.
use Rattle.std.specs.Prelude.{◌≡◌, ◌+◌, ◌-◌, ◌<◌, ◌≤◌, ◌∷◌, ◌++◌}
use Rattle.laws.specs.Kit.{refl, sym, ◌∙◌, ap, subst, inl, true, ℕ, arith, List, [], append-nil, append_assoc, length, get_or, length-append}
use Rattle.rings.specs.Rings.{Out, Distinct}
use Rattle.definition.specs.Lists.{any}
use Rattle.definition.specs.Cells.{Live, Mesh, live_tri}
use Rattle.laws.specs.Lists.{In, in_right, Stored, stored_kept}
use Rattle.cells.proofs.Slots.{slots_length, in_has}
use Rattle.cells.specs.Layout.{list_at}
use Rattle.cells.specs.Rep.{slots, Rep}
use Rattle.cells.proofs.Frames.{rep_under}
use Rattle.regions.specs.Listing.{Listed, CanList, Cleared, Aside}
use Rattle.regions.proofs.Listings.{aside_refl, aside_trans}
use Rattle.regions.proofs.Reaches.{appended}
use Rattle.components.specs.Flood.{Marked, Seen, MarkedTo}
use Rattle.components.proofs.Members.{has_in, tris_at}
use Rattle.components.proofs.Grows.{can_list, seen_can, seen_room, grown}

-- ---- cleared

module _ {w₀ w : List ℕ} {s p used : ℕ} (h : Cleared w₀ w s p used) where
  -- nothing listed, nothing marked
  pub cleared_none : {m : Mesh} → Rep w₀ s p m → m.used ≡ used → Marked w s p 0 m []
  unfolding any
  cleared_none {m} r u =
      record { rep = rep_under w₀ w s p h.under m r; len = refl; distinct = tt; live = λ x i. absurd i; tris = tt; stored = tt; marks = λ i l. h.marks i (omega (arith, l, u)) }

  -- what was listed is
  pub cleared_listed : {n : ℕ} {m : Mesh} {xs : List Live} → Listed w₀ s p n m xs → Listed w s p n m xs
  cleared_listed {m = m} {xs = xs} k =
      record {
        rep = rep_under w₀ w s p h.under m k.rep;
        len = k.len;
        many = k.many;
        distinct = k.distinct;
        live = k.live;
        tris = k.tris;
        stored = stored_kept w₀ w (list_at s p) (slots xs) (λ i a b. h.keeps.high i (omega arith)) k.stored;
      }

-- ---- the cells listed marked

-- the first i of them
pub record Marking (w₀ w : List ℕ) (s p n i : ℕ) (m : Mesh) (xs : List Live) : Type 0 where
  pub done : List Live
  pub rest : List Live
  pub parts : xs ≡ done ++ rest
  pub state : Marked w s p i m done
  pub stored : Stored w (list_at s p + i) (slots rest)
  pub aside : Aside w₀ w s p

pub marking_start : {w : List ℕ} {s p n : ℕ} {m : Mesh} {xs : List Live} → Listed w s p n m xs → Marked w s p 0 m [] → Marking w w s p n 0 m xs
marking_start {w} {s} {p} {xs = xs} h k =
    record {
      done = [];
      rest = xs;
      parts = refl;
      state = k;
      stored = (let z : list_at s p + 0 ≡ list_at s p = omega arith in rw z h.stored);
      aside = aside_refl w s p;
    }

-- the next of them
pub record Upcoming (w₀ w : List ℕ) (s p n i j : ℕ) (m : Mesh) (xs : List Live) : Type 0 where
  pub done : List Live
  pub x : Live
  pub rest : List Live
  pub parts : xs ≡ done ++ x ∷ rest
  pub seen : Seen w s p i j m done x
  pub is_tri : live_tri x ≡ true
  pub out : Out x.slot (slots done)
  pub stored : Stored w (list_at s p + i + 1) (slots rest)

module _ {w₀ w : List ℕ} {s p n i : ℕ} {m : Mesh} {xs : List Live} (h : Listed w₀ s p n m xs) (g : Marking w₀ w s p n i m xs) where
  pub marking_end : n ≤ i → i ≤ n → MarkedTo w₀ w s p n m xs
  marking_end l k = go g.rest g.parts
    where
      go : (rest : List Live) → xs ≡ g.done ++ rest → MarkedTo w₀ w s p n m xs
      go [] e =
          let q : g.done ≡ xs = sym (e ∙ append-nil g.done) in
          let z : i ≡ n = omega arith in
          record { state = subst (λ (v : List Live). Marked w s p n m v) q (subst (λ (v : ℕ). Marked w s p v m g.done) z g.state); aside = g.aside }
      go (x ∷ rest) e = absurd (omega (arith, ap length e, length-append g.done (x ∷ rest), h.len, g.state.len))

  module _ (l : i < n) where
    pub marking_can : n ≤ s → CanList w s p i
    marking_can k = can_list g.state i (omega arith)

    pub upcoming : {j : ℕ} → j ≡ get_or w (list_at s p + i) 0 → Upcoming w₀ w s p n i j m xs
    upcoming {j} q = go g.rest g.parts g.stored
      where
        go : (rest : List Live) → xs ≡ g.done ++ rest → Stored w (list_at s p + i) (slots rest) → Upcoming w₀ w s p n i j m xs
        go [] e k = absurd (omega (arith, ap length e, length-append g.done [], h.len, g.state.len))
        go (x ∷ rest) e k =
            let i₁ : In x xs = subst (λ (v : List Live). In x v) (sym e) (in_right x g.done (x ∷ rest) (inl refl)) in
            let d : Distinct (slots (g.done ++ x ∷ rest)) = subst (λ (v : List Live). Distinct (slots v)) e h.distinct in
            let lv : In x m.live = has_in x m.live (h.live x (in_has x xs i₁)) in
            record {
              done = g.done;
              x = x;
              rest = rest;
              parts = e;
              seen = record { state = g.state; live = lv; slot = q ∙ k.0 };
              is_tri = tris_at xs h.tris x i₁;
              out = apart g.done d;
              stored = k.1;
            }
          where
            apart : (done : List Live) → Distinct (slots (done ++ x ∷ rest)) → Out x.slot (slots done)
            apart [] d = tt
            apart (y ∷ done) d = (λ z. out_at x.slot done d.0 z, apart done d.1)
              where
                out_at : (v : ℕ) (l : List Live) → Out y.slot (slots (l ++ x ∷ rest)) → y.slot ≡ x.slot → ⊥
                out_at v [] o z = o.0 (sym z)
                out_at v (u ∷ l) o z = out_at v l o.1 z

    module _ {j : ℕ} (u : Upcoming w₀ w s p n i j m xs) where
      pub upcoming_can : CanList w s p i × CanList w s p j
      upcoming_can = (seen_room w s p i j m u.done u.x u.seen u.out, seen_can w s p i j m u.done u.x u.seen)

      pub marking_on : {w' : List ℕ} → w' ≡ appended w s p i j → n ≤ s → Marking w₀ w' s p n (i + 1) m xs
      marking_on e k = subst (λ (v : List ℕ). Marking w₀ v s p n (i + 1) m xs) (sym e)
          (let f = grown w s p i j m u.done u.x u.seen u.out u.is_tri in
          record {
            done = u.done ++ u.x ∷ [];
            rest = u.rest;
            parts = u.parts ∙ sym (append_assoc u.done (u.x ∷ []) u.rest);
            state = f.state;
            stored = (let z : list_at s p + (i + 1) ≡ list_at s p + i + 1 = omega arith in rw z
                (stored_kept w (appended w s p i j) (list_at s p + i + 1) (slots u.rest)
                (λ b c d. let y : list_at s p + (b - list_at s p) ≡ b = omega arith in
                subst (λ (v : ℕ). get_or (appended w s p i j) v 0 ≡ get_or w v 0) y (f.behind (b - list_at s p) (omega (arith, c)) (omega (arith, d, slots_length u.rest, ap length u.parts, length-append u.done (u.x ∷ u.rest), h.len, u.seen.state.len, k))))
                u.stored));
            aside = aside_trans w₀ w (appended w s p i j) s p g.aside f.aside;
          })
