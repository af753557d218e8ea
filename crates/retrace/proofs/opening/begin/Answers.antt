-- The mesh is built, and the numbers are those of the definition's first.
use Rattle.laws.specs.Kit.{refl}
use Rattle.retrace.specs.Replaying.{told_of}
use Rattle.retrace.proofs.Beginning.{sized, begin_build, begin_begins}
use Rattle.retrace.proofs.opening.begin.Goals as goal

pub invariant_of-lay : goal.invariant_of-lay
invariant_of-lay c = record { sizes = sized (told_of c.args.told) c.requires.0 c.requires.1.opened }

pub build-requires : goal.build-requires
build-requires c =
    begin_build c.args.work.now c.args.triangles.now (told_of c.args.told) c.requires.0 c.requires.1

pub returns : goal.returns
returns c = λ l h.
    begin_begins c.args.work.now c.args.triangles.now (told_of c.args.told) l h c.build.new.w _ c.build.ensures refl
