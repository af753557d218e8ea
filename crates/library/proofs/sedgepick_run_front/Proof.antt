-- What `standard` states are these numbers with the standard set, and a trace of no words stays one.
use mathlib.Core.List.{List, []}
use Prim.Native.Nat.{ℕ}
use borrow.Author.Rules.{rules}
use Rattle.definition.specs.Call.{Lent}
use Rattle.mesher.specs.Promise.{lent_of}
use Rattle.library.proofs.Handing.{stated_as, untraced}
use Rattle.library.proofs.sedgepick_run_front.Statement.{statement}
use Rattle.library.proofs.sedgepick_run_front.Tie as tie

-- what is lent, with this trace
abbrev lending : tie.After-answered → List ℕ → Lent
lending x trace =
    let a = x.args in
    let d = x.answered.new in
    lent_of d.points a.triangles.now [] d.quads d.triangles_out d.components d.work d.float_work trace

returns : tie.Need-returns
returns c =
    let x = c in
    let none = x.answered.new.trace in
    stated_as x.standard-stated.ensures
    (untraced (lending x.before.before.before.before.before.before.before.before.before.before.before.before.before.before.before) none x.answered.auto.trace x.answered.ensures)

pub sedgepick_run_front_spec : {M : Type 1} → statement M
sedgepick_run_front_spec =
    tie.close
    (tie.spec
    (λ c κs. search rules) (λ c. search rules) (λ c. search rules) (λ c κs. search rules) (λ c. search rules) (λ c. search rules) (λ c. search rules) (λ c. search rules) (λ c. search rules) (λ c. search rules) (λ c. search rules) returns)
