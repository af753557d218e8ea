-- The set passes seven tests, in the definition's order; each that fails is an answer.
-- `yes-k` is what passing test k gave.
use Rattle.std.specs.Prelude.{◌≡◌}
use Rattle.laws.specs.Kit.{sym, ◌∙◌, true, false, rules, lt-leb, le-leb}
use Rattle.definition.specs.Floats.{◌≼◌, f64, 0·0, 0·1, 0·5, 0·99, 1·0, 4·0}
use Rattle.definition.specs.Call.{ranges, good_quality, most_pairs}
use Rattle.refusals.proofs.good_quality.Statement.{statement}
use Rattle.refusals.proofs.good_quality.Tie as tie

abbrev start : tie.Else-not-ranges → tie.Start
start c = c.before.before

yes_1 : (c : tie.Else-not-ranges) → ranges 0·0 1·0 (start c).args.y.least_jacobian ≡ true
unfolding 0·0 1·0 f64
yes_1 c = sym c.ranges-2.ensures ∙ c.if-not-ranges.false

abbrev top2 : tie.Else-not-ranges-2 → tie.Else-not-ranges
top2 c = c.before.before

yes_2 : (c : tie.Else-not-ranges-2) → ranges 0·5 0·99 (start (top2 c)).args.y.largest_cosine ≡ true
unfolding 0·5 0·99 f64
yes_2 c = sym c.ranges-3.ensures ∙ c.if-not-ranges-2.false

abbrev top3 : tie.Else-not-ranges-3 → tie.Else-not-ranges-2
top3 c = c.before.before

yes_3 : (c : tie.Else-not-ranges-3) → ranges 0·1 4·0 (start (top2 (top3 c))).args.y.side_low ≡ true
unfolding 0·1 4·0 f64
yes_3 c = sym c.ranges-4.ensures ∙ c.if-not-ranges-3.false

abbrev top4 : tie.Else-not-ranges-4 → tie.Else-not-ranges-3
top4 c = c.before.before

yes_4 : (c : tie.Else-not-ranges-4) → ranges 0·1 4·0 (start (top2 (top3 (top4 c)))).args.y.side_high ≡ true
unfolding 0·1 4·0 f64
yes_4 c = sym c.ranges-5.ensures ∙ c.if-not-ranges-4.false

abbrev top5 : tie.Else-not-y → tie.Else-not-ranges-4
top5 c = c.before.before

yes_5 : (c : tie.Else-not-y) → ((start (top2 (top3 (top4 (top5 c))))).args.y.side_low ≼ (start (top2 (top3 (top4 (top5 c))))).args.y.side_high) ≡ true
unfolding ◌≼◌
yes_5 c = c.if-not-y.false

returns : tie.Need-returns-then-not-ranges
unfolding good_quality 0·0 1·0 f64
returns c = rw (sym c.ranges-2.ensures ∙ c.if-not-ranges.true)

returns_2 : tie.Need-returns-then-not-ranges-2
unfolding good_quality 0·5 0·99 f64
returns_2 c = rw (yes_1 c.before.before, sym c.ranges-3.ensures ∙ c.if-not-ranges-2.true)

returns_3 : tie.Need-returns-then-not-ranges-3
unfolding good_quality 0·1 4·0 f64
returns_3 c = let p = c in rw (yes_1 (top2 p.before.before), yes_2 p.before.before, sym c.ranges-4.ensures ∙ c.if-not-ranges-3.true)

returns_4 : tie.Need-returns-then-not-ranges-4
unfolding good_quality 0·1 4·0 f64
returns_4 c = let p = c in rw (yes_1 (top2 (top3 p.before.before)), yes_2 (top3 p.before.before), yes_3 p.before.before, sym c.ranges-5.ensures ∙ c.if-not-ranges-4.true)

returns_5 : tie.Need-returns-then-not-y
unfolding good_quality ◌≼◌
returns_5 c =
    let p = c in
    let y = (start (top2 (top3 (top4 p.before.before)))).args.y in
    let no : (y.side_low ≼ y.side_high) ≡ false = c.if-not-y.true in
    rw (yes_1 (top2 (top3 (top4 p.before.before))), yes_2 (top3 (top4 p.before.before)), yes_3 (top4 p.before.before), yes_4 p.before.before, no)

returns_6 : tie.Need-returns-then-y-lt1
unfolding good_quality ◌≼◌
returns_6 c =
    let p5 = c in
    let p = top5 p5.before.before in
    rw (yes_1 (top2 (top3 (top4 p))), yes_2 (top3 (top4 p)), yes_3 (top4 p), yes_4 p, yes_5 p5.before.before, lt-leb 1 _ c.if-y-lt1.true)

returns_7 : tie.Need-returns
unfolding good_quality ◌≼◌ most_pairs
returns_7 c =
    let p5 = c in
    let p = top5 p5.before.before.before in
    rw (yes_1 (top2 (top3 (top4 p))), yes_2 (top3 (top4 p)), yes_3 (top4 p), yes_4 p, yes_5 p5.before.before.before, le-leb 1 _ c.if-y-lt1.false)

pub good_quality_spec : {M : Type 1} → statement M
good_quality_spec =
    tie.close
    (tie.spec
    (λ c κs. search rules) returns (λ c κs. search rules) returns_2 (λ c κs. search rules) returns_3 (λ c κs. search rules) returns_4 returns_5 returns_6 returns_7)
