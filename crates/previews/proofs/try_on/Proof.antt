-- The attempt inserted at most two points, behind the given ones; what stood there is put back.
use mathlib.Core.Path.{◌≡◌, ap, ◌∙◌}
use Prim.Native.Nat.{◌≤◌}
use native.Mathlib.Omega.{arith}
use borrow.Author.Rules.{rules}
use lib.ListN.{length}
use Rattle.definition.specs.Call.{Asked, Lent}
use Rattle.refusals.specs.Stated.{asked}
use Rattle.mesher.specs.Previews.{shown_of}
use Rattle.mesher.specs.Showing.{CanTry}
use Rattle.mesher.proofs.Showing.{Stayed, restored, try_count, try_stayed, try_shown}
use Rattle.previews.proofs.try_on.Statement.{statement}
use Rattle.previews.proofs.try_on.Tie as tie

abbrev stated : tie.Start → Asked
stated t = asked t.args.stated

abbrev Can : tie.Start → Lent → Type 0
Can t l = CanTry t.args.points.now t.args.joints.now t.args.work.now (stated t) l t.args.u t.args.v

few : (t : tie.Start) → (stated t).given ≤ 4096
few t = (try_count t.args.points.now t.args.joints.now t.args.work.now (stated t) t.requires.0 t.args.u t.args.v t.requires.1).1

abbrev start : tie.After-attempted-t → tie.Start
start y = y.before.before.before.before.before.before.before.before.before.before

-- the points after the attempt
stayed : (y : tie.After-attempted-t) (l : Lent) → Can (start y) l → Stayed (start y).args.points.now y.attempted-t.new.points (stated (start y)).given y.attempted-t.result.counters.points
stayed y l h =
    let t = start y in
    let e = y.attempted-t.ensures l h in
    try_stayed (stated t) l h.passed t.args.u t.args.v h.up t.args.points.now y.attempted-t.new.points y.attempted-t.new.work e.0 y.attempted-t.result e.1 h.points

mul_from : tie.Need-overflow_mul-from
mul_from c =
    omega (arith, few c.before.before.before.before)

keep_requires : tie.Need-keep-requires
keep_requires c κs =
    (omega (arith, few c.before.before.before.before.before), omega arith)

attempted_requires : tie.Need-attempted-t-requires
attempted_requires c κs =
    c.requires

sub_added : tie.Need-overflow_sub-added
sub_added c =
    let y = c in let t = start y.before.before.before.before.before.before.before in (stayed y.before.before.before.before.before.before.before t.requires.0 t.requires.1).least

mul_n : tie.Need-overflow_mul-n
mul_n c =
    let y = c in let t = start y.before.before.before.before.before.before.before in let s = stayed y.before.before.before.before.before.before.before t.requires.0 t.requires.1 in omega (arith, s.least, s.most)

put_back_requires : tie.Need-put_back-requires
put_back_requires c κs =
    let y = c in
    let k = c in
    let t = start y.before.before.before.before.before.before.before.before.before in
    let s = stayed y.before.before.before.before.before.before.before.before.before t.requires.0 t.requires.1 in
    let room : length k.keep.new.kept ≡ 6 = k.keep.auto.kept in
    (omega (arith, s.most, room), omega (arith, s.least, s.fits, s.len), omega (arith, few t), omega (arith, s.most))

returns : tie.Need-returns
returns c =
    let b = c in
    let y = c in
    let k = c in
    let t = start y.before.before.before.before.before.before.before.before.before.before.before.before.before in
    λ l h.
    let e = y.attempted-t.ensures l h in (
      restored t.args.points.now y.attempted-t.new.points b.put_back.new.points k.keep.new.kept (stated t).given y.attempted-t.result.counters.points (stayed y.before.before.before.before.before.before.before.before.before.before.before.before.before l h) k.keep.ensures b.put_back.ensures,
      ap shown_of c.shown_by.ensures
          ∙ try_shown (stated t) l h.passed t.args.u t.args.v h.up t.args.points.now y.attempted-t.new.points y.attempted-t.new.work e.0 y.attempted-t.result e.1,
    )

pub try_on_spec : {M : Type 1} → statement M
try_on_spec =
    tie.close
    (tie.spec
    mul_from (λ c. search rules) keep_requires attempted_requires sub_added mul_n (λ c. search rules) put_back_requires (λ c κs. search rules) (λ c. search rules) (λ c. search rules) returns)
