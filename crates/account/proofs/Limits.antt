-- The limit of attempts, over a call.
use Rattle.std.specs.Prelude.{◌≡◌, ◌⊎◌, ◌+◌, ◌-◌, ◌*◌, ◌<◌, ◌≤◌}
use Rattle.laws.specs.Kit.{refl, sym, ◌∙◌, ap, subst, inl, inr, Bool, ℕ, arith, ltb, ltb-true, ltb-false, List, length}
use Rattle.definition.specs.Numbers.{Settings, max_attempts, max_triangles}
use Rattle.definition.specs.Counts.{Counts, tally, ◌⊞◌, no_counts, emptied, one_attempt, Spent, spending, at_limit, Refusal, Placement, Shape, Recovery, Region, OddRegion, refused_by, Want}
use Rattle.definition.specs.Plane.{Node, Edge}
use Rattle.definition.specs.Cells.{Tri, live_tris, tris_of, triangles}
use Rattle.definition.specs.Attempt.{Attempt, placed, refused, ended}
use Rattle.definition.specs.Front.{State, Progress, stuck, progressed, limited, stopped, counting, after, make_attempt, past_limit, attempt, front_loop, Result, ran, start, result, outcome, run_front}
use Rattle.definition.specs.Call.{Asked, Lent, Lengths, finished, given_points, given_tris, given_locks, settings_within, lengths, call_within, call}
use Rattle.laws.specs.Bools.{which, never, either, or_none, cond_ok}
use Rattle.account.proofs.Rearranged.{same_length}
use Rattle.account.proofs.Parity.{triangles_same}
use Rattle.account.proofs.LiveTris.{live_tris_is}
use Rattle.account.proofs.Finished.{behind, tris_number}
use Rattle.account.specs.Walks.{Goes, Ends}
use Rattle.account.proofs.Walks.{Walk, rounds_end_so}
use Rattle.account.proofs.Attempts.{at_the_limit, made_within, without_limit, begun_within, ended_how, rounds_of}

-- A run that the limit on attempts ended reports exactly one more.
-- A run that a limit ended with fewer attempts has more leftover triangles than their limit.
pub result_limit : (s : Settings) (lk : Edge → Bool) (ts : List Tri) (ps : List Node) (r : Result) → run_front s lk ts ps ≡ ran r → r.counts.limit ≡ 1
    → (r.counts.attempts ≡ s.attempts + 1) ⊎ ((r.counts.attempts ≤ s.attempts) × (max_triangles (length ts) < length r.triangles))
unfolding result
result_limit s lk ts ps r e f =
    elim (at_the_limit s lk ts ps r e f) [
      | inl h ↦ inl h
      | inr h ↦
          let m = h.0.mesh in
          let u : length r.triangles ≡ length (triangles m) = ap (λ r. length r.triangles) h.1 in
          inr (h.2, omega (arith, h.3, u, live_tris_is m, same_length (tris_of m.live) (triangles m) (triangles_same m)))
    ]

-- ---- a call
-- A call that the limit on attempts ended reports exactly one more than that limit.
-- A call that a limit ended with fewer attempts has more leftover triangles than theirs.
pub limit_of_call : (most : ℕ) (a : Asked) (l : Lent) (c : Counts) (n : Lengths) → (call_within most a l).answer ≡ finished c n → c.limit ≡ 1
    → (c.attempts ≡ most + 1) ⊎ ((c.attempts ≤ most) × (4 * a.count + 100 < n.triangles))
unfolding settings_within lengths max_triangles
limit_of_call most a l c n done e =
    let b = behind most a l c n done in
    let k = b.counts_are in
    let t = tris_number a l b.passed in
    elim (result_limit (settings_within most (length l.trace) a) (given_locks a l) (given_tris a l) (given_points a l) b.run b.ended (sym (ap (λ z. z.limit) k) ∙ e)) [
      | inl h ↦ inl (omega (arith, ap (λ z. z.attempts) k, h, t))
      | inr h ↦ inr (omega (arith, ap (λ z. z.attempts) k, h.0), omega (arith, h.1, ap (λ z. z.triangles) b.lengths_are, t))
    ]

-- A call that the usual limit on attempts ended reports 200 times the triangles plus 10,001.
pub limit_exact : (a : Asked) (l : Lent) (c : Counts) (n : Lengths) → (call a l).answer ≡ finished c n → c.limit ≡ 1
    → (c.attempts ≡ 200 * a.count + 10001) ⊎ ((c.attempts ≤ 200 * a.count + 10000) × (4 * a.count + 100 < n.triangles))
unfolding call max_attempts
limit_exact a l c n done e = elim (limit_of_call (200 * a.count + 10000) a l c n done e) [ inl h ↦ inl (omega arith) | inr h ↦ inr h ]
