-- The numbers of a call's answer are small, for what the program asks.
use mathlib.Core.Path.{◌≡◌, refl, sym, ap, ◌∙◌, subst}
use mathlib.Core.Bool.{Bool, true}
use mathlib.Core.Logic.{inl, inr}
use Prim.{absurd}
use Prim.Native.Nat.{ℕ, ◌+◌, ◌≤◌, ◌<◌}
use native.Mathlib.Omega.{arith}
use lib.ListN.{length}
use lib.Ieee.{binary64, fits}
use Rattle.definition.specs.Lists.{find}
use Rattle.definition.specs.Numbers.{max_attempts}
use Rattle.definition.specs.Counts.{Counts, tally, no_counts, Want, of_points, of_slots, of_trace, number}
use Rattle.definition.specs.Front.{Outcome, ran, wanting, run_front}
use Rattle.definition.specs.Call.{Asked, Lent, Lengths, finished, refusal, given_points, given_tris, given_locks, settings_within, conditions, untouched, after_run, call_within, call}
use Rattle.definition.specs.Call as call
use Rattle.laws.specs.Lists.{In, find_in, known}
use Rattle.laws.specs.Cells.{points_length}
use Rattle.account.proofs.Finished.{behind, points_number, tris_number}
use Rattle.account.proofs.Rounds.{attempts_bound}
use Rattle.account.proofs.Invariants.{answer_fits}
use Rattle.account.proofs.Demand.{keeps_account}
use Rattle.mesher.specs.Promise.{Reply, number_of, counts_in, lengths_in, Returns}
use Rattle.replies.specs.Tells.{Writable}
use Rattle.replies.proofs.Empties.{front_empty_bound}

-- ---- refusals

module _ (a : Asked) (l : Lent) (k : ℕ) where
  of_condition : (c : ℕ × Bool) → In c (conditions a l) → (0 < c.0) × (c.0 ≤ 16)
  unfolding conditions
  of_condition c i = elim i [
    | inl e ↦ let f = ap (λ z. z.0) e in (omega arith, omega arith)
    | inr (inl e) ↦ let f = ap (λ z. z.0) e in (omega arith, omega arith)
    | inr (inr (inl e)) ↦ let f = ap (λ z. z.0) e in (omega arith, omega arith)
    | inr (inr (inr (inl e))) ↦ let f = ap (λ z. z.0) e in (omega arith, omega arith)
    | inr (inr (inr (inr (inl e)))) ↦ let f = ap (λ z. z.0) e in (omega arith, omega arith)
    | inr (inr (inr (inr (inr (inl e))))) ↦ let f = ap (λ z. z.0) e in (omega arith, omega arith)
    | inr (inr (inr (inr (inr (inr (inl e)))))) ↦ let f = ap (λ z. z.0) e in (omega arith, omega arith)
    | inr (inr (inr (inr (inr (inr (inr (inl e))))))) ↦ let f = ap (λ z. z.0) e in (omega arith, omega arith)
    | inr (inr (inr (inr (inr (inr (inr (inr (inl e)))))))) ↦ let f = ap (λ z. z.0) e in (omega arith, omega arith)
    | inr (inr (inr (inr (inr (inr (inr (inr (inr (inl e))))))))) ↦ let f = ap (λ z. z.0) e in (omega arith, omega arith)
    | inr (inr (inr (inr (inr (inr (inr (inr (inr (inr e))))))))) ↦ absurd e
  ]

  of_want : (w : Want) → (0 < number w) × (number w ≤ 16)
  unfolding number
  of_want of_points = (omega arith, omega arith)
  of_want of_slots = (omega arith, omega arith)
  of_want of_trace = (omega arith, omega arith)

  of_outcome : (o : Outcome) → (after_run l o).answer ≡ refusal k → (0 < k) × (k ≤ 16)
  unfolding after_run
  of_outcome (ran r) e = absurd (let z : ◌≡◌ {A = ℕ} 0 1 = cc in omega arith)
  of_outcome (wanting w ps qs ws) e = let f : number w ≡ k = cc in let b = of_want w in (omega arith, omega arith)

  within : (most : ℕ) → (call_within most a l).answer ≡ refusal k → (0 < k) × (k ≤ 16)
  unfolding call_within untouched
  within most h = elim (known (find (λ c. c.1) (conditions a l))) [
    | inl f ↦ of_outcome (run_front (settings_within most (length l.trace) a) (given_locks a l) (given_tris a l) (given_points a l)) (rw (f, call_within) at h)
    | inr f ↦
        let g : refusal f.0.0 ≡ refusal k = rw (f.1, call_within) at h in
        let e : f.0.0 ≡ k = cc in
        let b = of_condition f.0 (find_in (λ c. c.1) f.0 (conditions a l) f.1).0 in
        (omega arith, omega arith)
  ]

  -- a call's refusal has one of the numbers 1 to 16
  pub refused_number : (call a l).answer ≡ refusal k → (0 < k) × (k ≤ 16)
  unfolding call
  refused_number h = within (max_attempts a.count) h

-- ---- finished runs

-- every count is small, and the given points are among those that come back
record Small (given : ℕ) (c : Counts) (n : Lengths) : Type 0 where
  front_empty : c.front_empty ≤ 1
  attempts : c.attempts ≤ 22801
  adds_up : c.placement + c.invalid_quad + c.recovery + c.region + c.odd_region + c.limit ≤ c.attempts
  points_added : n.points ≡ given + c.mismatch_insertions
  quads : n.quads ≤ 160
  triangles : n.triangles ≤ 160
  points : n.points ≤ 96
  components : n.components ≤ 160

module _ (a : Asked) (l : Lent) (double : fits binary64 a.quality.largest_cosine ≡ true) (few : a.count ≤ 64) (capacity : a.capacity ≡ 96) (slots : a.slots ≡ 160) where
  small : (c : Counts) (n : Lengths) → (call a l).answer ≡ finished c n → Small a.given c n
  unfolding call settings_within max_attempts
  small c n e =
      let most = max_attempts a.count in
      let b = behind most a l c n e in
      let t = tris_number a l b.passed in
      let p = points_number a l b.passed in
      let k = keeps_account most a l double c n e in
      let f = answer_fits most a l c n e in
      let exit = (call a l).lent in
      record {
        front_empty = subst (λ z. z.front_empty ≤ 1) (sym b.counts_are) (front_empty_bound (settings_within most (length l.trace) a) (given_locks a l) (given_tris a l) (given_points a l) b.run b.ended);
        attempts =
            let h = attempts_bound (settings_within most (length l.trace) a) (given_locks a l) (given_tris a l) (given_points a l) b.run b.ended in
            let g : b.run.counts.attempts ≤ 22801 = omega arith in
            subst (λ z. z.attempts ≤ 22801) (sym b.counts_are) g;
        adds_up = let s = k.attempts_sum in omega arith;
        points_added = sym (points_length n.points exit.points) ∙ k.points_added ∙ ap (λ z. z + c.mismatch_insertions) p;
        quads = omega (arith, f.quads_fit);
        triangles = omega (arith, f.triangles_fit);
        points = omega (arith, f.points_fit);
        components = omega (arith, f.sizes_fit);
      }

  -- field by field
  writable : (w : call.Answer) → (call a l).answer ≡ w → (r : Reply) → r.refusal ≡ number_of w → counts_in r ≡ call.counts_of w → lengths_in r ≡ call.lengths_of w → Writable r a.given
  unfolding number_of tally call.counts_of call.lengths_of no_counts
  writable (finished c n) e r f g h =
      let s = small c n e in
      let g₁ : r.front_empty ≡ c.front_empty = ap (λ z. z.front_empty) g in
      let g₂ : r.attempts ≡ c.attempts = ap (λ z. z.attempts) g in
      let g₃ : r.placement ≡ c.placement = ap (λ z. z.placement) g in
      let g₄ : r.invalid_quad ≡ c.invalid_quad = ap (λ z. z.invalid_quad) g in
      let g₅ : r.recovery ≡ c.recovery = ap (λ z. z.recovery) g in
      let g₆ : r.region ≡ c.region = ap (λ z. z.region) g in
      let g₇ : r.odd_region ≡ c.odd_region = ap (λ z. z.odd_region) g in
      let g₈ : r.mismatch_insertions ≡ c.mismatch_insertions = ap (λ z. z.mismatch_insertions) g in
      let g₉ : r.limit ≡ c.limit = ap (λ z. z.limit) g in
      let h₁ : r.quads ≡ n.quads = ap (λ z. z.quads) h in
      let h₂ : r.triangles ≡ n.triangles = ap (λ z. z.triangles) h in
      let h₃ : r.points ≡ n.points = ap (λ z. z.points) h in
      let h₄ : r.components ≡ n.components = ap (λ z. z.components) h in
      record {
        number = omega arith;
        counts = omega arith;
        quads = omega arith;
        triangles = omega arith;
        points = omega arith;
        components = omega arith;
        given_first = λ z. omega arith;
      }
  writable (refusal k) e r f g h =
      let s = refused_number a l k e in
      let g₁ : r.front_empty ≡ 0 = ap (λ z. z.front_empty) g in
      let g₂ : r.attempts ≡ 0 = ap (λ z. z.attempts) g in
      let g₃ : r.placement ≡ 0 = ap (λ z. z.placement) g in
      let g₄ : r.invalid_quad ≡ 0 = ap (λ z. z.invalid_quad) g in
      let g₅ : r.recovery ≡ 0 = ap (λ z. z.recovery) g in
      let g₆ : r.region ≡ 0 = ap (λ z. z.region) g in
      let g₇ : r.odd_region ≡ 0 = ap (λ z. z.odd_region) g in
      let g₈ : r.mismatch_insertions ≡ 0 = ap (λ z. z.mismatch_insertions) g in
      let g₉ : r.limit ≡ 0 = ap (λ z. z.limit) g in
      let h₁ : r.quads ≡ 0 = ap (λ z. z.quads) h in
      let h₂ : r.triangles ≡ 0 = ap (λ z. z.triangles) h in
      let h₃ : r.points ≡ 0 = ap (λ z. z.points) h in
      let h₄ : r.components ≡ 0 = ap (λ z. z.components) h in
      record {
        number = omega arith;
        counts = omega arith;
        quads = omega arith;
        triangles = omega arith;
        points = omega arith;
        components = omega arith;
        given_first = λ z. absurd (omega arith);
      }

  -- what the program's call answers can be written
  pub call_writable : {r : Reply} {l' : Lent} → Returns (call a l) r l' → Writable r a.given
  call_writable {r} h = writable (call a l).answer refl r h.number h.counts h.lengths
