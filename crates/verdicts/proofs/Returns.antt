-- The answer read back is the definition's.
use mathlib.Core.Path.{◌≡◌, refl, sym, ap, ap₂, ◌∙◌}
use mathlib.Core.List.{List, ◌++◌}
use Rattle.std.specs.Prelude.{Option, None, Some, Ok, Err}
use Rattle.std.proofs.Math.Option as definition
use Prim.Native.Nat.{ℕ, ◌+◌, ◌-◌, ◌≤◌}
use native.Mathlib.Omega.{arith}
use lib.ListN.{length, get_or, take, drop, take-append-drop, length-drop}
use lib.Seq.{length-take-le, get_or-drop, ext_get_or}
use Rattle.definition.specs.Call.{first_points, onto, all_of}
use Rattle.laws.specs.Cells.{points_length}
use Rattle.laws.specs.Slices.{cleared}
use Rattle.refusals.specs.Numbers.{number, number_positive}
use Rattle.refusals.specs.Refusals.{number_of, some_found}
use Rattle.refusals.specs.declared.named.Refusal.{Refusal}
use Rattle.uprights.specs.Promise.{FirstFlat}
use Rattle.accept.specs.Accept.{uprights, moved, verdict}
use Rattle.accept.specs.Call.{Handed, judged, refused, found, refusal}
use Rattle.accept.proofs.Passed.{call_refused, call_answers}
use Rattle.accept.proofs.Thin.{same_thin}
use Rattle.offenders.specs.Search as search
use Rattle.offenders.specs.Cells.{FirstFolded, FirstSharp}
use Rattle.offenders.specs.Triangles.{FirstThin}
use Rattle.accept_refusals.specs.Passed.{Passed, passed, none_holds}
use Rattle.verdicts.specs.declared.leaves.Found.{Found}
use Rattle.verdicts.specs.Leaves.{Finds, finds_says}
use Rattle.verdicts.specs.Flat.{flat_given, flat_left}
use Rattle.lost_joints.specs.Promise.{option}
use Rattle.verdicts.specs.declared.Answered.{Answered}
use Rattle.verdicts.specs.Promise.{verdict_of, Answers}
use Rattle.verdicts.proofs.Rooms.{known, distinct}

-- ---- a refusal

pub refused_so : (h : Handed) (e : Refusal) → number e ≡ number_of (refused h) → Answers h (Err e) h.components h.work h.parents
unfolding number_of
refused_so h e f =
    let s = some_found (refused h) (λ z. let p = number_positive e in omega (arith, f, z)) in
    let g : number e ≡ s.0.0 = f ∙ ap number_of s.1 in
    ap (λ k. record { answer = refusal k; components = h.components; work = h.work; parents = h.parents }) g ∙ sym (call_refused h s.0 s.1)

-- ---- an answer

-- a place found
found_place : (n : ℕ) (o : definition.Option ℕ) (r : Option ℕ) → search.Finds n o r → option r ≡ o
found_place n o None f = sym f
found_place n o (Some r) f = sym f.1

-- what stands behind the sizes stays
onto_is : (old new : List ℕ) (m : ℕ) → length new ≡ length old → m ≤ length new → ((i : ℕ) → m ≤ i → get_or new i 0 ≡ get_or old i 0) → new ≡ onto (take m new) old
unfolding onto
onto_is old new m e l h =
    let rest : drop m new ≡ drop m old = ext_get_or 0 (drop m new) (drop m old) (length-drop m new ∙ ap (λ k. k - m) e ∙ sym (length-drop m old))
    (λ i a. get_or-drop m new i 0 ∙ h (m + i) (omega arith) ∙ sym (get_or-drop m old i 0)) in
    sym (take-append-drop m new) ∙ ap (λ l. take m new ++ l) (rest ∙ ap (λ k. drop k old) (sym (length-take-le m new l)))

-- what the parts answered
pub record Parts (h : Handed) (r : Answered) (components : List ℕ) (f : Found) (work work' parents parents' : List ℕ) : Type 0 where
  pub moved_found : search.Finds h.given (moved 0 (first_points h.given h.given_slice) (first_points h.points h.point_slice)) r.moved
  pub added_found : r.added ≡ h.points - h.given
  pub folded_found : FirstFolded h.point_slice h.quad_slice h.quads r.folded
  pub sharp_found : FirstSharp h.point_slice h.quad_slice h.quads h.cosine r.sharp
  pub given_found : FirstFlat h.given_slice h.triangle_slice h.count r.given_turned
  pub left_found : FirstFlat h.point_slice h.left_slice h.left r.left_turned
  pub thin_found : FirstThin h.point_slice h.left_slice h.left h.thin r.thin
  pub judged_found : Finds h.given_slice h.triangle_slice h.count h.point_slice h.quad_slice h.quads h.left_slice h.left h.joint_slice h.joints h.components components f
  pub uneven_is : r.uneven ≡ f.uneven
  pub lost_is : r.lost ≡ f.lost
  pub groups_is : r.groups ≡ f.components
  pub odd_is : r.odd ≡ f.odd
  pub work_long : length work ≡ length h.work
  pub work_clear : work' ≡ all_of 0 work
  pub parents_long : length parents ≡ length h.parents
  pub parents_clear : parents' ≡ all_of 0 parents

module _ (h : Handed) (zero_is : number_of (refused h) ≡ 0) where
  pass : Passed h
  pass = passed h zero_is

  module _ (r : Answered) (components : List ℕ) (f : Found) (work work' parents parents' : List ℕ) (t : Parts h r components f work work' parents parents') where
    verdict_is : verdict_of r components ≡ verdict (uprights (judged h))
    unfolding verdict_of verdict judged
    verdict_is =
        let j = uprights (judged h) in
        let p = pass in
        let s = finds_says h h.components components f (known h p) (distinct h p) t.judged_found in
        let g = flat_given h r.given_turned p.given.known t.given_found in
        let l = flat_left h r.left_turned p.left.known t.left_found in
        let e_moved = found_place h.given (verdict j).moved r.moved t.moved_found in
        let e_added : r.added ≡ (verdict j).added = t.added_found ∙ ap₂ (λ m n. m - n) (sym (points_length h.points h.point_slice)) (sym (points_length h.given h.given_slice)) in
        let e_folded = found_place h.quads (verdict j).folded r.folded (t.folded_found h.points p.quads j refl) in
        let e_sharp = found_place h.quads (verdict j).sharp r.sharp (t.sharp_found h.points p.quads j refl refl) in
        let e_given = sym g in
        let e_left = sym l in
        let e_thin = found_place h.left (verdict (judged h)).thin r.thin (t.thin_found h.points p.left (judged h) refl refl) ∙ sym (same_thin (judged h)) in
        let e_uneven = ap option t.uneven_is ∙ sym s.uneven_is in
        let e_lost = ap option t.lost_is ∙ sym s.lost_is in
        let e_sizes = ap (λ m. take m components) t.groups_is ∙ s.sizes_are in
        let e_odd = t.odd_is ∙ s.odd_is in
        λ i. record {
          moved = e_moved i;
          added = e_added i;
          folded = e_folded i;
          sharp = e_sharp i;
          given_turned = e_given i;
          left_turned = e_left i;
          thin = e_thin i;
          uneven = e_uneven i;
          lost = e_lost i;
          sizes = e_sizes i;
          odd = e_odd i;
        }

    components_are : components ≡ onto (verdict (uprights (judged h))).sizes h.components
    components_are =
        let g = t.judged_found.sizes_found in
        let s = finds_says h h.components components f (known h pass) (distinct h pass) t.judged_found in
        onto_is h.components components f.components g.size g.room g.behind ∙ ap (λ l. onto l h.components) s.sizes_are

    pub answered_so : Answers h (Ok r) components work' parents'
    answered_so =
        let v = verdict_is in
        let c = components_are in
        let w = t.work_clear ∙ cleared 0 work h.work t.work_long in
        let q = t.parents_clear ∙ cleared 0 parents h.parents t.parents_long in
        (λ i. record { answer = found (v i); components = c i; work = w i; parents = q i }) ∙ sym (call_answers h (none_holds h zero_is))
