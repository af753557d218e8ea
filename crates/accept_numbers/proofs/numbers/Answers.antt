-- Each number is that of the verdict read back.
use Rattle.std.specs.Prelude.{[], ◌∷◌}
use mathlib.Core.Path.{sym, ◌∙◌, ap}
use lib.ListN.{length-take}
use Rattle.accept_numbers.proofs.Telling.{place_is, ends_are, one_if, as_number}
use Rattle.verdicts.specs.Promise.{verdict_of}
use Rattle.accept_numbers.specs.Numbers.{listed}
use Rattle.accept_numbers.proofs.numbers.Goals as goal

pub returns : goal.returns
unfolding listed verdict_of
returns c =
    let a = c.args.a in
    let s = c.args.s in
    let e0 = c.from-yes.ensures ∙ as_number _ ∙ ap one_if (c.accepted.ensures c.args.components.now) in
    let e1 = c.unwrap_or.ensures ∙ place_is s.given a.moved in
    let e3 = c.unwrap_or-2.ensures ∙ place_is s.quads a.folded in
    let e4 = c.unwrap_or-3.ensures ∙ place_is s.quads a.sharp in
    let e5 = c.unwrap_or-4.ensures ∙ place_is s.count a.given_turned in
    let e6 = c.unwrap_or-5.ensures ∙ place_is s.left a.left_turned in
    let e7 = c.unwrap_or-6.ensures ∙ place_is s.left a.thin in
    let e8 = ap (λ e. e.0) (c.unwrap_or-u.ensures ∙ ends_are a.uneven) in
    let e9 = ap (λ e. e.1) (c.unwrap_or-u.ensures ∙ ends_are a.uneven) in
    let e10 = c.unwrap_or-7.ensures ∙ place_is s.joints a.lost in
    let e11 = c.min.ensures ∙ sym (length-take a.groups c.args.components.now) in
    λ i. e0 i ∷ e1 i ∷ a.added ∷ e3 i ∷ e4 i ∷ e5 i ∷ e6 i ∷ e7 i ∷ e8 i ∷ e9 i ∷ e10 i ∷ e11 i ∷ a.odd ∷ []
