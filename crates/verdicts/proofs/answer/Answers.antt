-- `verdicts::answer` meets its contract: what passing the refusals gives is what the parts ask,
-- and what they answer is the verdict.
-- Assumes nothing.
use mathlib.Core.Path.{refl}
use borrow.Author.Rules.{rules}
use Rattle.accept_refusals.specs.Stated.{handed}
use Rattle.accept_refusals.specs.Passed.{passed}
use Rattle.verdicts.proofs.Rooms.{readable, judgeable}
use Rattle.verdicts.proofs.Returns.{answered_so}
use Rattle.verdicts.proofs.answer.Goals as goal

pub first_moved-moved-requires : goal.first_moved-moved-requires
first_moved-moved-requires c = let p = passed _ c.requires in (p.long.given, p.long.points)

pub first_folded-folded-requires : goal.first_folded-folded-requires
first_folded-folded-requires c = (c.args.a.points, (passed _ c.requires).quads)

pub first_sharp-sharp-requires : goal.first_sharp-sharp-requires
first_sharp-sharp-requires c = let p = passed _ c.requires in ((c.args.a.points, p.quads), p.limit)

pub first_flat-given_turned-requires : goal.first_flat-given_turned-requires
first_flat-given_turned-requires c = readable _ _ _ _ (passed _ c.requires).given

pub first_flat-left_turned-requires : goal.first_flat-left_turned-requires
first_flat-left_turned-requires c = readable _ _ _ _ (passed _ c.requires).left

pub first_thin-thin-requires : goal.first_thin-thin-requires
first_thin-thin-requires c = let p = passed _ c.requires in ((c.args.a.points, p.left), p.thin_from)

pub judge-found-requires : goal.judge-found-requires
judge-found-requires c = judgeable _ (passed _ c.requires)

pub returns : goal.returns
returns c =
    let a = c.args in
    let hand = handed a.given.now a.triangles.now a.points.now a.quads.now a.left.now a.joints.now a.components.now a.work.now a.parents.now a.a in
    answered_so hand c.requires _ _ c.judge-found.result _ _ _ _ (record {
      moved_found = c.first_moved-moved.ensures;
      added_found = c.saturating_sub-added.ensures;
      folded_found = c.first_folded-folded.ensures;
      sharp_found = c.first_sharp-sharp.ensures;
      given_found = c.first_flat-given_turned.ensures;
      left_found = c.first_flat-left_turned.ensures;
      thin_found = c.first_thin-thin.ensures;
      judged_found = c.judge-found.ensures;
      uneven_is = refl;
      lost_is = refl;
      groups_is = refl;
      odd_is = refl;
      work_long = search rules;
      work_clear = c.clear.ensures;
      parents_long = search rules;
      parents_clear = c.clear-2.ensures;
    })
