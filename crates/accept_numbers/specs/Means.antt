-- What a yes means: 0 is returned and the first number is 1 exactly where the verdict names no
-- offender, and then every clause holds.
use Rattle.std.specs.Prelude.{◌≡◌, refl, Bool, true, false, cond, List, ℕ}
use Rattle.std.proofs.Math.Path.{sym, ap}
use Rattle.std.proofs.Common.{◌∙◌, arith}
use Rattle.std.proofs.Math.Logic.{inl, inr}
use Prim.{absurd}
use Rattle.std.proofs.Math.ListN.{get_or}
use Rattle.definition.specs.Call.{onto}
use Rattle.laws.specs.Bools.{never}
use Rattle.laws.specs.Lists.{known, no_some}
use Rattle.refusals.specs.Refusals.{number_of}
use Rattle.accept.specs.Accept.{Verdict, uprights, verdict}
use Rattle.accept.specs.Call.{Handed, found, judged, refused, call}
use Rattle.accept.specs.Passed.{InDoubles}
use Rattle.accept.proofs.Passed.{call_refused, call_answers}
use Rattle.accept.specs.Theorems.{Clean}
use Rattle.accept.specs.Upright.{AcceptedEither}
use Rattle.accept.proofs.Upright.{accepted}
use Rattle.accept_refusals.specs.Passed.{none_holds}
use Rattle.accept_numbers.specs.Numbers.{clean, listed, number, put, Tells, clean_means}

yes : (b : Bool) → ◌≡◌ {A = ℕ} (cond b 1 0) 1 → b ≡ true
yes true e = refl
yes false e = absurd (omega (arith, e))

one : (b : Bool) → b ≡ true → ◌≡◌ {A = ℕ} (cond b 1 0) 1
one true e = refl
one false e = never false e refl

-- of a call on h whose answer stood in `old`: it returned 0, and `new` stands there
module _ (h : Handed) (old new : List ℕ) (t : Tells h (call h).answer old 0 new) where
  -- the verdict that the definition finds
  abbrev v : Verdict
  v = verdict (uprights (judged h))

  found_so : (call h).answer ≡ found v
  unfolding number_of
  found_so = elim (known (refused h)) [
    | inl e ↦ ap (λ x. x.answer) (call_answers h e)
    | inr (c, e) ↦
        let zero_is : c.0 ≡ 0 = sym (t.number_is ∙ ap (λ x. number x.answer) (call_refused h c e)) in
        no_some c (sym (none_holds h (ap number_of e ∙ zero_is)) ∙ e)
  ]

  first_is : get_or new 0 0 ≡ cond (clean v) 1 0
  unfolding onto listed
  first_is = ap (λ xs. get_or xs 0 0) (t.answer_is ∙ ap (λ a. put h a old) found_so)

  -- The first number is 1 exactly where no clause has an offender.
  pub yes_exactly : (get_or new 0 0 ≡ 1 → Clean v) × (Clean v → get_or new 0 0 ≡ 1)
  yes_exactly = (λ e. (clean_means v).0 (yes (clean v) (sym first_is ∙ e)), λ c. first_is ∙ one (clean v) ((clean_means v).1 c))

  -- Where it is, the points are kept, the quads convex and wide, the joints there, the areas equal,
  -- and each place of the plane is covered as often as by the given triangles.
  pub yes_means : InDoubles h.given_slice → InDoubles h.point_slice → get_or new 0 0 ≡ 1 → AcceptedEither (judged h)
  yes_means dg dp e = accepted h v dg dp found_so (yes_exactly.0 e)
