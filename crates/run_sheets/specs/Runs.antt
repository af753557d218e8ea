-- The sheet of what a call left in its slices, from what `run_front` promises and nothing else.
use Rattle.std.specs.Prelude.{Result, Ok, Err, ◌≡◌, refl, false, ℕ, ◌*◌, ◌≤◌, length, drop, Float}
use Rattle.std.proofs.Math.Path.{sym, ap, subst}
use Rattle.std.proofs.Common.{◌∙◌, arith, length-append}
use mathlib.Core.List.{List, [], ◌∷◌}
use Rattle.std.proofs.Math.Option.{some}
use Prim.{absurd}
use Rattle.std.proofs.Math.Decide.{ℕ_discrete}
use Rattle.std.proofs.Math.ListN.{get_or}
use Rattle.definition.specs.Lists.{flat_map, numbers, below}
use Rattle.definition.specs.Floats.{◌≺◌}
use Rattle.definition.specs.Numbers.{Quality, max_attempts}
use Rattle.definition.specs.Plane.{Node}
use Rattle.definition.specs.Front.{Outcome, ran, wanting, run_front}
use Rattle.definition.specs.Call.{Asked, Lent, Lengths, given_points, given_tris, given_locks, first_quads, coordinates, quad_words, onto, settings_within, lengths, lengths_of, written, untouched, after_run, call_within, call}
use Rattle.definition.specs.Sheet.{Value}
use Rattle.definition.specs.Sheet as sheets
use Rattle.laws.specs.Lists.{table_length, numbers_length}
use Rattle.laws.specs.Cells.{points_length}
use Rattle.laws.specs.Slices.{quads_length}
use Rattle.refusals.specs.Refusals.{first_refusal, passed, call_runs, call_refused}
use Rattle.mesher.specs.Promise.{Reply, number_of, lengths_in, Returns, KeptAccountWithin, KeptAccount}
use Rattle.refusals.specs.declared.named.Refusal.{Refusal}
use Rattle.refusals.specs.Numbers.{number, number_positive}
use Rattle.sheet_steps.specs.Values.{worst_in}
use Rattle.sheet.specs.declared.answers.Sheet.{Sheet}
use Rattle.sheet.specs.Promise as filing
use Rattle.sheet.specs.Promise.{listed}
use Rattle.sheet.specs.OurMeshes.{Handed, Passing, on_our_mesh}

-- What a finished call with at most so many attempts is known to have left: its contract, and that it was not refused.
pub record FinishedRun (most : ℕ) (a : Asked) (l : Lent) (r : Reply) (exit : Lent) : Type 0 where
  pub returns : Returns (call_within most a l) r exit
  pub keeps : KeptAccountWithin most a l r exit
  pub no_refusal : r.refusal ≡ 0

-- A sheet comes back, and is filed: no quad is without metrics, and neither worst is beyond the set's.
pub record Filed (y : Quality) (r : Result Sheet Refusal) : Type 0 where
  pub s : Sheet
  pub sheet : r ≡ Ok s
  pub eleventh : get_or s.counts 10 0 ≡ 0
  pub jacobian : (v : Value) → worst_in s.jacobian ≡ some v → (v.1 ≺ y.least_jacobian) ≡ false
  pub cosine : (v : Value) → worst_in s.cosine ≡ some v → (y.largest_cosine ≺ v.1) ≡ false

filed_is : (r : Result Sheet Refusal) (d : sheets.Sheet) → filing.answer_in r ≡ sheets.filed d → (s : Sheet) × ((r ≡ Ok s) × (filing.sheet_in s ≡ d))
unfolding filing.number_of sheets.sheet_of
filed_is (Ok s) d e = (s, (refl, ap sheets.sheet_of e))
filed_is (Err k) d e = absurd (let p = number_positive k in let z : number k ≡ 0 = ap filing.number_of e in omega arith)

-- ---- lengths

onto_length : {A : Type 0} (new old : List A) → length new ≤ length (onto new old)
unfolding onto
onto_length new old = omega (arith, length-append new (drop (length new) old))

coordinates_length : (ps : List Node) → length (flat_map coordinates ps) ≡ 3 * length ps
unfolding flat_map coordinates
coordinates_length [] = refl
coordinates_length (p ∷ ps) = omega (arith, coordinates_length ps)

first_quads_length : (n : ℕ) (qs : List ℕ) → length (first_quads n qs) ≡ n
unfolding first_quads below
first_quads_length n qs = table_length _ (numbers 0 n) ∙ numbers_length 0 n

-- the lists that came back are in slices that are long enough for them
left_in : (l exit : Lent) (n : Lengths) (o : Outcome) → (after_run l o).lent ≡ exit → n ≡ lengths_of (after_run l o).answer → (3 * n.points ≤ length exit.points) × (8 * n.quads ≤ length exit.quads)
unfolding after_run lengths_of written lengths
left_in l exit n (ran r) e f = (
  subst (λ (x : Lent). 3 * n.points ≤ length x.points) e
      (omega (arith, ap (λ k. k.points) f, coordinates_length r.points, onto_length (flat_map coordinates r.points) l.points)),
  subst (λ (x : Lent). 8 * n.quads ≤ length x.quads) e
      (omega (arith, ap (λ k. k.quads) f, quads_length r.quads, onto_length (flat_map quad_words r.quads) l.quads)),
)
left_in l exit n (wanting w ps qs words) e f = (omega (arith, ap (λ k. k.points) f), omega (arith, ap (λ k. k.quads) f))

-- ---- the theorem

module _ (most : ℕ) (a : Asked) (l exit : Lent) (r : Reply) (run : FinishedRun most a l r exit) where
  not_refused : first_refusal a l ≡ 0
  unfolding untouched number_of
  not_refused = elim (ℕ_discrete (first_refusal a l) 0) [
    | yes e ↦ e
    | no e ↦ absurd (e (sym (ap (λ x. number_of x.answer) (call_refused a l e most)) ∙ sym run.returns.number ∙ run.no_refusal))
  ]

  in_slices : (3 * r.points ≤ length exit.points) × (8 * r.quads ≤ length exit.quads)
  in_slices =
      let o = run_front (settings_within most (length l.trace) a) (given_locks a l) (given_tris a l) (given_points a l) in
      let is = call_runs a l not_refused most in
      left_in l exit (lengths_in r) o (sym (ap (λ x. x.lent) is) ∙ run.returns.lent) (run.returns.lengths ∙ ap (λ x. lengths_of x.answer) is)

  handed : (out : List Float) → 2 * r.quads ≤ length out → Handed (listed r.points r.quads exit.points exit.quads out)
  handed out room =
      let limits = (passed a l not_refused).limited in
      let fit = (run.keeps run.no_refusal).lists_fit in
      record {
        few_points = omega (arith, fit.0, points_length r.points exit.points, limits.capacity);
        few_quads = omega (arith, fit.1, first_quads_length r.quads exit.quads, limits.slots);
        points = in_slices.0;
        quads = in_slices.1;
        out = room;
      }

  -- On what a finished call left, with two numbers of `out` for each quad, the sheet is filed,
  -- its eleventh count is 0, and neither worst is beyond the set's.
  pub sheet_passes : (out : List Float) → 2 * r.quads ≤ length out → Passing a.quality (listed r.points r.quads exit.points exit.quads out)
  sheet_passes out room = on_our_mesh r.points r.quads exit.points exit.quads out (run.keeps run.no_refusal) (handed out room)

  -- the sheet that the code answers of the points and quads that the call left has no quad without metrics,
  -- and neither worst is beyond the set's
  pub sheet_filed : (ps : List Float) (qs : List ℕ) (out new : List Float) (s : Result Sheet Refusal) → exit.points ≡ ps → exit.quads ≡ qs → 2 * r.quads ≤ length out
      → filing.Returns (sheets.call (listed r.points r.quads ps qs out)) s new → Filed a.quality s
  sheet_filed ps qs out new s e f room h =
      let there = subst (λ (z : List Float). filing.Returns (sheets.call (listed r.points r.quads z qs out)) s new) (sym e) h in
      let here = subst (λ (z : List ℕ). filing.Returns (sheets.call (listed r.points r.quads exit.points z out)) s new) (sym f) there in
      let p = sheet_passes out room in
      let o = filed_is s _ (here.answer ∙ p.answer) in
      let is = o.1.1 in
      record {
        s = o.0;
        sheet = o.1.0;
        eleventh = ap (λ x. get_or x.counts 10 0) is ∙ p.eleventh;
        jacobian = λ v g. p.jacobian v (sym (ap (λ x. x.jacobian) is) ∙ g);
        cosine = λ v g. p.cosine v (sym (ap (λ x. x.cosine) is) ∙ g);
      }

-- A call of `run_front` that came back without a refusal is such a run, by its contract.
pub run_finished : (a : Asked) (l exit : Lent) (r : Reply) → Returns (call a l) r exit → KeptAccount a l r exit → r.refusal ≡ 0 → FinishedRun (max_attempts a.count) a l r exit
unfolding call
run_finished a l exit r h k e = record { returns = h; keeps = k; no_refusal = e }
