-- The nodes, the slots, the slot of its own, then the quad.
use Rattle.std.specs.Prelude.{◌≡◌, ◌||◌, ◌+◌, Err}
use Rattle.laws.specs.Kit.{refl, sym, ◌∙◌, ap, subst, Bool, not, ℕ, arith, List, length, take, drop}
use lib.Seq.{drop-drop}
use Rattle.definition.specs.Cells.{Quad, quad, push_cell}
use Rattle.definition.specs.Replay.{word, entered_quad}
use Rattle.cells.specs.Rep.{Rep}
use Rattle.refusals.specs.declared.named.Refusal.TheVariants.{NoSlots, BadTrace}
use Rattle.retrace.specs.Stored.{four, stored}
use Rattle.retrace.specs.Takes.{taking, TakesTo}
use Rattle.retrace.specs.Plays.{state, played, placed}
use Rattle.retrace.proofs.Entered.{quad_is, known_is, four_known, emptied, entry_strange, entry_missing, all_gone, entry_crowded, entry_placed, can_place}
use Rattle.retrace.proofs.quads.quad_at.Goals as goal

pub returns-then-not-known : goal.returns-then-not-known
returns-then-not-known c = λ q q₀ old m t z k.
    let a = c.args in
    let at = drop a.g.at a.trace.now in
    let ids = take a.n (drop 9 at) in
    let many : a.g.points ≡ length m.points = k.points in
    let known = known_is a.trace.now a.g.at c.wide-a.result c.wide-b.result c.wide-c.result c.wide-d.result c.wide-a.ensures c.wide-b.ensures c.wide-c.ensures c.wide-d.ensures
    a.g.points (length m.points) c.known.result many c.known.ensures in
    entry_strange a.work.now q a.quads.now a.lay.slots a.lay.points q₀ old (state a.g) m k ids t z (entered_quad at) (9 + a.n) (known ∙ c.if-not-known.true) (played (Err BadTrace)) refl

pub returns-then-not-take_out : goal.returns-then-not-take_out
returns-then-not-take_out c = λ q q₀ old m t z k.
    let a = c.args in
    let at = drop a.g.at a.trace.now in
    let ids = take a.n (drop 9 at) in
    let same : take a.n (drop (a.g.at + 9) a.trace.now) ≡ ids = ap (take a.n) (sym (drop-drop 9 a.g.at a.trace.now)) in
    let taken = emptied a.work.now q a.quads.now a.lay.slots a.lay.points q₀ old (state a.g) m k ids c.take_out.new.work c.take_out.result
    (subst (λ (l : List ℕ). TakesTo c.take_out.new.work a.lay.slots a.lay.points (taking (stored m) l) c.take_out.result) same (c.take_out.ensures.is (stored m) k.rep)) in
    entry_missing a.work.now q a.quads.now a.lay.slots a.lay.points q₀ old (state a.g) m k ids t z (entered_quad at) (9 + a.n) c.take_out.new.work c.take_out.ensures.len
    c.take_out.result taken c.if-not-take_out.true (played (Err BadTrace)) refl

pub returns-then-g-lay : goal.returns-then-g-lay
returns-then-g-lay c = λ q q₀ old m t z k.
    let a = c.args in
    let at = drop a.g.at a.trace.now in
    let ids = take a.n (drop 9 at) in
    let same : take a.n (drop (a.g.at + 9) a.trace.now) ≡ ids = ap (take a.n) (sym (drop-drop 9 a.g.at a.trace.now)) in
    let taken = emptied a.work.now q a.quads.now a.lay.slots a.lay.points q₀ old (state a.g) m k ids c.take_out.new.work c.take_out.result
    (subst (λ (l : List ℕ). TakesTo c.take_out.new.work a.lay.slots a.lay.points (taking (stored m) l) c.take_out.result) same (c.take_out.ensures.is (stored m) k.rep)) in
    let gone = all_gone c.take_out.new.work a.lay.slots a.lay.points m ids c.take_out.result taken c.if-not-take_out.false in
    let many : a.g.points ≡ length m.points = k.points in
    let known = known_is a.trace.now a.g.at c.wide-a.result c.wide-b.result c.wide-c.result c.wide-d.result c.wide-a.ensures c.wide-b.ensures c.wide-c.ensures c.wide-d.ensures
    a.g.points (length m.points) c.known.result many c.known.ensures in
    entry_crowded a.work.now q a.quads.now a.lay.slots a.lay.points q₀ old (state a.g) m k ids t z (entered_quad at) (9 + a.n) c.take_out.new.work c.take_out.ensures.len
    c.take_out.result taken gone (known ∙ c.if-not-known.false) c.if-g-lay.true (played (Err NoSlots)) refl

pub place-odd-requires : goal.place-odd-requires
place-odd-requires c =
    let a = c.args in
    let b = c.requires.by_index in
    let q = b.0 in
    let q₀ = b.1 in
    let old = b.2 in
    let m = b.3 in
    let k = b.4 in
    let at = drop a.g.at a.trace.now in
    let ids = take a.n (drop 9 at) in
    let same : take a.n (drop (a.g.at + 9) a.trace.now) ≡ ids = ap (take a.n) (sym (drop-drop 9 a.g.at a.trace.now)) in
    let taken = emptied a.work.now q a.quads.now a.lay.slots a.lay.points q₀ old (state a.g) m k ids c.take_out.new.work c.take_out.result
    (subst (λ (l : List ℕ). TakesTo c.take_out.new.work a.lay.slots a.lay.points (taking (stored m) l) c.take_out.result) same (c.take_out.ensures.is (stored m) k.rep)) in
    let gone = all_gone c.take_out.new.work a.lay.slots a.lay.points m ids c.take_out.result taken c.if-not-take_out.false in
    let below = four_known a.g.points c.wide-a.result c.wide-b.result c.wide-c.result c.wide-d.result (sym c.known.ensures ∙ c.if-not-known.false) in
    (gone.mesh, gone.rep, can_place a.work.now q a.quads.now a.lay.slots a.lay.points q₀ old (state a.g) m k ids gone.mesh gone.is c.wide-a.result c.wide-b.result c.wide-c.result c.wide-d.result c.if-g-lay.false below)

pub returns : goal.returns
returns c = λ q q₀ old m t z k.
    let a = c.args in
    let at = drop a.g.at a.trace.now in
    let ids = take a.n (drop 9 at) in
    let same : take a.n (drop (a.g.at + 9) a.trace.now) ≡ ids = ap (take a.n) (sym (drop-drop 9 a.g.at a.trace.now)) in
    let taken = emptied a.work.now q a.quads.now a.lay.slots a.lay.points q₀ old (state a.g) m k ids c.take_out.new.work c.take_out.result
    (subst (λ (l : List ℕ). TakesTo c.take_out.new.work a.lay.slots a.lay.points (taking (stored m) l) c.take_out.result) same (c.take_out.ensures.is (stored m) k.rep)) in
    let gone = all_gone c.take_out.new.work a.lay.slots a.lay.points m ids c.take_out.result taken c.if-not-take_out.false in
    let many : a.g.points ≡ length m.points = k.points in
    let known = known_is a.trace.now a.g.at c.wide-a.result c.wide-b.result c.wide-c.result c.wide-d.result c.wide-a.ensures c.wide-b.ensures c.wide-c.ensures c.wide-d.ensures
    a.g.points (length m.points) c.known.result many c.known.ensures in
    let below = four_known a.g.points c.wide-a.result c.wide-b.result c.wide-c.result c.wide-d.result (sym c.known.ensures ∙ c.if-not-known.false) in
    let read = quad_is a.trace.now a.g.at c.wide-a.result c.wide-b.result c.wide-c.result c.wide-d.result c.wide-a.ensures c.wide-b.ensures c.wide-c.ensures c.wide-d.ensures in
    let can = can_place a.work.now q a.quads.now a.lay.slots a.lay.points q₀ old (state a.g) m k ids gone.mesh gone.is c.wide-a.result c.wide-b.result c.wide-c.result c.wide-d.result c.if-g-lay.false below in
    let rep : Rep c.place-odd.new.work a.lay.slots a.lay.points (stored (push_cell gone.mesh (quad (entered_quad at)))) =
    subst (λ (x : Quad). Rep c.place-odd.new.work a.lay.slots a.lay.points (stored (push_cell gone.mesh (quad x)))) (sym read) (c.place-odd.ensures.rep gone.mesh gone.rep can (word at 5, word at 6) (word at 7) (word at 8)) in
    let odd : c.place-odd.result ≡ not (four (entered_quad at)) = c.place-odd.ensures.odd (word at 5, word at 6) (word at 7) (word at 8) ∙ ap (λ (x : Quad). not (four x)) (sym read) in
    entry_placed a.work.now q a.quads.now a.lay.slots a.lay.points q₀ old (state a.g) m k ids t z (entered_quad at) (9 + a.n) c.take_out.new.work c.take_out.ensures.len
    c.take_out.result taken gone (known ∙ c.if-not-known.false) c.place-odd.new.work c.put_words.new.quads _ c.if-g-lay.false rep c.place-odd.ensures.len
    (record { at = omega arith; used = refl; points = refl; quads = refl; odd_now = c.either-any.ensures ∙ ap (λ (b : Bool). a.g.odd || b) odd; going = refl })
    (c.put_words.ensures.is (placed m) old k.number k.text) c.put_words.ensures.len
