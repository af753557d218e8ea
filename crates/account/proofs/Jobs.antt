-- A job of several meshes: from its start, with each state handed on once,
use Rattle.std.specs.Prelude.{◌≡◌, ◌||◌, ◌+◌, ◌-◌, ◌*◌, ◌<◌, ◌≤◌, ◌∷◌, ◌++◌}
use Rattle.laws.specs.Kit.{refl, sym, ◌∙◌, ap, subst, inl, inr, Bool, true, false, none, ℕ, zero, suc, arith, eqb, ltb, leb, ne_eqb, le-ltb, lt-leb, leb-false, List, [], length}
use Rattle.std.proofs.Common.{div-add-mod'}
use Rattle.definition.specs.Lists.{find}
use Rattle.definition.specs.Numbers.{Settings, max_attempts}
use Rattle.definition.specs.Counts.{Counts}
use Rattle.definition.specs.Front.{Progress, stuck, progressed, limited, stopped, ran, run_front}
use Rattle.definition.specs.Call.{Asked, Lent, Lengths, finished, given_points, given_tris, given_locks, first_quads, conditions, settings_within, settings, lengths, untouched, after_run, call_within, call}
use Rattle.definition.specs.Job.{Job, most_meshes, most_allowance, share, entitled, bad_job, job_limit, rounds_of, attempts_made, charge, handed_on, JobReturned, after_mesh, run_mesh, job}
use Rattle.laws.specs.Bools.{which, or_none}
use Rattle.laws.specs.Lists.{known}
use Rattle.account.proofs.Slices.{read_quads}
use Rattle.account.proofs.Finished.{behind}
use Rattle.account.specs.Walks.{Ends}
use Rattle.account.specs.Attempts.{Going, Limited}
use Rattle.account.proofs.Attempts.{ending}
use Rattle.account.specs.Smaller.{First}
use Rattle.account.proofs.Smaller.{limited_to, smaller_finished}
use Rattle.account.specs.Jobs.{FinishedFirst, Handed, Reaches, all_charged, in_job, in_turn, job_start, state_after}
use Rattle.account.proofs.JobRefused.{refused_first}

-- its rounds
abbrev mesh_rounds : Job → Asked → Lent → Progress
mesh_rounds j a l = rounds_of (in_job j a l) (given_locks a l) (given_tris a l) (given_points a l)

charge_within : (most given : ℕ) (p : Progress) → Ends (Going most) (Limited most given) p → charge p ≤ most
unfolding charge attempts_made
charge_within most given (stuck st) h = elim h [ inl g ↦ omega (arith, g.made) | inr g ↦ omega (arith, g.counted, g.limit) ]
charge_within most given (progressed st) h = omega (arith, h.made)
charge_within most given (limited st) h = omega (arith, h.counted, h.limit)
charge_within most given (stopped w st) h = h.made

limit_within : (j : Job) (a : Asked) → job_limit j a ≤ entitled j
unfolding job_limit
limit_within j a = omega arith

ran_mesh : (j : Job) (a : Asked) (l : Lent) → Handed j (after_mesh j l (mesh_rounds j a l))
unfolding after_mesh settings_within rounds_of
ran_mesh j a l =
    let w = charge_within (job_limit j a) (length (given_tris a l)) (mesh_rounds j a l) (ending (in_job j a l) (given_locks a l) (given_tris a l) (given_points a l)) in
    record { within = omega (arith, limit_within j a, w); next_is = refl }

run_handed : (j : Job) (a : Asked) (l : Lent) → Handed j (run_mesh j a l)
unfolding run_mesh
run_handed j a l = elim (known (find (λ c. c.1) (conditions a l))) [
  | inl f ↦ rw (f, run_mesh) (ran_mesh j a l)
  | inr f ↦ rw (f.1, run_mesh) (record { within = omega arith; next_is = refl })
]

going_on : (j : Job) → bad_job j ≡ false → j.done < j.meshes
unfolding bad_job
going_on j h =
    let a = or_none (eqb j.meshes 0 || ltb most_meshes j.meshes || leb j.meshes j.done || eqb j.allowance 0 || ltb most_allowance j.allowance) (ltb (j.done * share j) j.left) h in
    let b = or_none (eqb j.meshes 0 || ltb most_meshes j.meshes || leb j.meshes j.done || eqb j.allowance 0) (ltb most_allowance j.allowance) a.0 in
    let c = or_none (eqb j.meshes 0 || ltb most_meshes j.meshes || leb j.meshes j.done) (eqb j.allowance 0) b.0 in
    let d = or_none (eqb j.meshes 0 || ltb most_meshes j.meshes) (leb j.meshes j.done) c.0 in
    leb-false j.meshes j.done d.1

-- a mesh is charged no more than it is entitled to, and hands on the rest
pub job_handed : (j : Job) (a : Asked) (l : Lent) → bad_job j ≡ false → Handed j (job j a l)
unfolding job
job_handed j a l h = rw h (run_handed j a l)

handed_share : (j : Job) (n : ℕ) → share (handed_on j n) ≡ share j
unfolding share handed_on
handed_share j n = refl

handed_left : (j : Job) (n : ℕ) → (handed_on j n).left ≡ entitled j - n
unfolding handed_on
handed_left j n = refl

handed_done : (j : Job) (n k : ℕ) → j.done + suc k ≡ j.meshes → (handed_on j n).done + k ≡ (handed_on j n).meshes
unfolding handed_on
handed_done j n k h = omega arith

one_more : (j : Job) (r : JobReturned) (xs : List (Asked × Lent)) (k : ℕ) → j.done + k ≡ j.meshes → Handed j r → j.done < j.meshes
    → ((n i : ℕ) → (handed_on j n).done + i ≡ (handed_on j n).meshes → all_charged (handed_on j n) xs ≤ (handed_on j n).left + i * share (handed_on j n))
    → r.charged + all_charged r.next xs ≤ j.left + k * share j
unfolding entitled
one_more j r xs zero h w l later = absurd (omega arith)
one_more j r xs (suc k) h w l later =
    let n = r.charged in
    let next : all_charged r.next xs ≤ (handed_on j n).left + k * share (handed_on j n) =
    subst (λ z. all_charged z xs ≤ (handed_on j n).left + k * share (handed_on j n)) (sym w.next_is) (later n k (handed_done j n k h)) in
    let same : k * share (handed_on j n) ≡ k * share j = ap (λ z. k * z) (handed_share j n) in
    omega (arith, next, same, handed_left j n, w.within)

-- with k meshes to come, what is left and k shares are enough
charged_within : (xs : List (Asked × Lent)) (j : Job) (k : ℕ) → j.done + k ≡ j.meshes → all_charged j xs ≤ j.left + k * share j
unfolding all_charged
charged_within [] j k h = omega arith
charged_within (x ∷ xs) j k h = elim (which (bad_job j)) [
  | inl b ↦
      let r = refused_first j x.0 x.1 b in
      let next : all_charged (job j x.0 x.1).next xs ≤ j.left + k * share j = subst (λ z. all_charged z xs ≤ j.left + k * share j) (sym (ap (λ z. z.next) r)) (charged_within xs j k h) in
      omega (arith, ap (λ z. z.charged) r, next)
  | inr b ↦ one_more j (job j x.0 x.1) xs k h (job_handed j x.0 x.1 b) (going_on j b) (λ n i g. charged_within xs (handed_on j n) i g)
]

-- From a job's start, with each state handed on once, the attempts made never pass the allowance:
-- whatever the meshes are, and however many.
pub allowance_kept : (meshes allowance : ℕ) (xs : List (Asked × Lent)) → all_charged (job_start meshes allowance) xs ≤ allowance
unfolding job_start share
allowance_kept meshes allowance xs =
    omega (arith, charged_within xs (job_start meshes allowance) meshes (omega arith), div-add-mod' allowance meshes)

-- ---- a mesh in a job and the same mesh by itself
usual : (j : Job) (a : Asked) → job_limit j a ≤ max_attempts a.count
unfolding job_limit
usual j a = omega arith

-- where nothing refuses the call, the mesh in the job returns what its run leads to
job_returns : (j : Job) (a : Asked) (l : Lent) → bad_job j ≡ false → find (λ c. c.1) (conditions a l) ≡ none
    → (job j a l).returned ≡ after_run l (run_front (in_job j a l) (given_locks a l) (given_tris a l) (given_points a l))
unfolding job run_mesh after_mesh rounds_of run_front
job_returns j a l h f = rw (h, f, run_mesh) refl

-- Where a mesh run by itself is finished, it is finished in the job,
-- and its quads in the job are the first ones of that run.
pub job_first : (j : Job) (a : Asked) (l : Lent) (c : Counts) (n : Lengths) → bad_job j ≡ false → (call a l).answer ≡ finished c n → FinishedFirst j a l n
unfolding after_run call settings settings_within limited_to
job_first j a l c n h done =
    let b = behind (max_attempts a.count) a l c n done in
    let w = smaller_finished (settings_within (max_attempts a.count) (length l.trace) a) (job_limit j a) (max_attempts a.count) (usual j a) (given_locks a l) (given_tris a l) (given_points a l) b.run b.ended in
    let r = w.0 in
    let is : (job j a l).returned ≡ after_run l (ran r) = job_returns j a l h b.passed ∙ ap (after_run l) w.1 in
    record {
      counts = r.counts;
      lengths_in = lengths r;
      finished_too = ap (λ z. z.answer) is;
      quads_first =
          let mine = read_quads r l (job j a l).returned.lent (lengths r) refl (ap (λ z. z.lent) is) in
          let theirs = read_quads b.run l (call a l).lent n b.lengths_are b.exit in
          (w.2.0, theirs ∙ w.2.1 ∙ ap (λ qs. qs ++ w.2.0) (sym mine));
    }

-- A mesh of a job that 16 does not refuse returns what its call returns with the job's limit.
-- It therefore keeps its account, its joints and its area as a call does.
pub job_is_call : (j : Job) (a : Asked) (l : Lent) → bad_job j ≡ false → (job j a l).returned ≡ call_within (job_limit j a) a l
unfolding job run_mesh after_mesh rounds_of run_front call_within
job_is_call j a l h = elim (known (find (λ c. c.1) (conditions a l))) [ inl f ↦ rw (h, f, run_mesh, call_within) refl | inr f ↦ rw (h, f.1, run_mesh, call_within) refl ]

-- What a later mesh contains changes nothing of an earlier one: neither its answer, nor its slices,
-- nor the attempts charged, nor the state handed on.
pub earlier_same : (j : Job) (xs ys : List (Asked × Lent)) → in_turn j (xs ++ ys) ≡ in_turn j xs ++ in_turn (state_after j xs) ys
unfolding in_turn state_after
earlier_same j [] ys = refl
earlier_same j (x ∷ xs) ys = let r = job j x.0 x.1 in ap (λ l. r ∷ l) (earlier_same r.next xs ys)

module _ (meshes allowance : ℕ) (some : 0 < meshes) (few : meshes ≤ most_meshes) (any : 0 < allowance) (fair : allowance ≤ most_allowance) where
  good_state : (done : ℕ) (j : Job) → Reaches meshes allowance done j → done < meshes → bad_job j ≡ false
  unfolding bad_job
  good_state done j h l =
      none_of
      (none_of
      (none_of
      (none_of
      (none_of (ne_eqb j.meshes 0 (λ z. omega (arith, h.meshes_are))) (le-ltb most_meshes j.meshes (omega (arith, h.meshes_are))))
      (lt-leb j.meshes j.done (omega (arith, h.meshes_are, h.done_are))))
      (ne_eqb j.allowance 0 (λ z. omega (arith, h.allowance_is))))
      (le-ltb most_allowance j.allowance (omega (arith, h.allowance_is))))
      (le-ltb (j.done * share j) j.left h.left_within)
    where
      none_of : {a b : Bool} → a ≡ false → b ≡ false → (a || b) ≡ false
      none_of {a} {b} e f = rw (e, f) refl

  next_state : (done : ℕ) (j : Job) (a : Asked) (l : Lent) → Reaches meshes allowance done j → done < meshes → Reaches meshes allowance (suc done) (job j a l).next
  unfolding handed_on entitled share
  next_state done j a l h less =
      let w = job_handed j a l (good_state done j h less) in
      let n = (job j a l).charged in
      let next : Reaches meshes allowance (suc done) (handed_on j n) = record {
        meshes_are = h.meshes_are;
        allowance_is = h.allowance_is;
        done_are = ap suc h.done_are;
        left_within = omega (arith, h.left_within);
      } in
      subst (λ z. Reaches meshes allowance (suc done) z) (sym w.next_is) next

  states_reached : (xs : List (Asked × Lent)) (done : ℕ) (j : Job) → Reaches meshes allowance done j → done + length xs ≤ meshes → Reaches meshes allowance (done + length xs) (state_after j xs)
  unfolding state_after
  states_reached [] done j h l = subst (λ k. Reaches meshes allowance k j) (omega arith) h
  states_reached (x ∷ xs) done j h l =
      subst (λ k. Reaches meshes allowance k (state_after (job j x.0 x.1).next xs)) (omega arith)
      (states_reached xs (suc done) (job j x.0 x.1).next (next_state done j x.0 x.1 h (omega arith)) (omega arith))

  -- No state that a job reaches is refused with 16 before its last mesh, whatever the meshes are.
  pub never_refused : (xs : List (Asked × Lent)) → length xs < meshes → bad_job (state_after (job_start meshes allowance) xs) ≡ false
  unfolding job_start
  never_refused xs l =
      let first : Reaches meshes allowance 0 (job_start meshes allowance) = record { meshes_are = refl; allowance_is = refl; done_are = refl; left_within = omega arith } in
      good_state (0 + length xs) (state_after (job_start meshes allowance) xs) (states_reached xs 0 (job_start meshes allowance) first (omega arith)) (omega arith)
