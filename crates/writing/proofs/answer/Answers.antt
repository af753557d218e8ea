-- `answer`: the six parts one after the other. Each is short enough for the buffer.
use Rattle.laws.specs.Kit.{◌∙◌, arith}
use Rattle.writing.proofs.Puts.{and_next, same_text}
use Rattle.writing.proofs.Parts.{at_front, joined}
use Rattle.definition.specs.Text.{bytes}
use Rattle.writing.specs.Answer.{columns, lengths_of, shown}
use Rattle.writing.proofs.answer.Goals as goal

pub named-requires : goal.named-requires
named-requires c = omega (arith, c.places-f.ensures.short, c.named-e.ensures.short, c.named-d.ensures.short, c.sized-b.ensures.short, c.counted-a.ensures.short, c.places-f.auto.out, c.named-e.auto.out, c.named-d.auto.out, c.sized-b.auto.out, c.counted-a.auto.out, c.requires.0, c.requires.1, c.requires.2)

pub shape_of-out : goal.shape_of-out
shape_of-out c = c.named.auto.out ∙ c.places-f.auto.out ∙ c.named-e.auto.out ∙ c.named-d.auto.out ∙ c.sized-b.auto.out ∙ c.counted-a.auto.out

pub returns : goal.returns
unfolding bytes lengths_of shown
returns c = λ d is.
    let a = c.args in
    let k = c.counted-a in
    let z = c.sized-b in
    let q = c.named-d in
    let t = c.named-e in
    let p = c.places-f in
    let e = c.named in
    let h₁ = k.ensures.short in
    let h₂ = z.ensures.short in
    let h₃ = q.ensures.short in
    let h₄ = t.ensures.short in
    let h₅ = p.ensures.short in
    let h₆ = e.ensures.short in
    let few = c.requires.0 in
    let room = c.requires.2 in
    at_front
    (same_text
    (and_next (and_next (and_next (and_next (and_next k.ensures.written (omega (arith, h₁, room))
    z.ensures.written) (omega (arith, h₁, h₂, room))
    q.ensures.written) (omega (arith, h₁, h₂, h₃, few, room))
    t.ensures.written) (omega (arith, h₁, h₂, h₃, h₄, few, room))
    p.ensures.written) (omega (arith, h₁, h₂, h₃, h₄, h₅, few, room))
    e.ensures.written)
    (joined a.given a.bits.now d (columns a.c) (lengths_of a.n) (shown a.points.now a.quads.now a.triangles.now a.components.now) is))
    (omega (arith, h₁, h₂, h₃, h₄, h₅, h₆, few, room))
