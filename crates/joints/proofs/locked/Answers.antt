-- A node without a mark is in no joint; otherwise the joints are looked through.
use Rattle.laws.specs.Kit.{sym, ◌∙◌}
use Rattle.joints.proofs.Searches.{unmarked_first, unmarked_second}
use Rattle.joints.proofs.locked.Goals as goal

pub returns-then-j-u-eq0 : goal.returns-then-j-u-eq0
returns-then-j-u-eq0 c = λ k h.
    let a = c.args in
    sym (h.is (a.u, a.v) ∙ unmarked_first a.j.now h.es h.kept a.u a.v c.if-j-u-eq0.true)

pub returns-then-j-v-eq0 : goal.returns-then-j-v-eq0
returns-then-j-v-eq0 c = λ k h.
    let a = c.args in
    sym (h.is (a.u, a.v) ∙ unmarked_second a.j.now h.es h.kept a.u a.v c.if-j-v-eq0.true)

pub returns : goal.returns
returns c = λ k h.
    let a = c.args in
    c.listed.ensures h.es h.kept ∙ sym (h.is (a.u, a.v))
