-- Counts of a standing, field by field.
use Rattle.std.specs.Prelude.{◌≡◌, ◌+◌}
use Rattle.laws.specs.Kit.{◌∙◌, ap, ℕ, arith}
use Rattle.definition.specs.Counts.{Counts, tally, ◌⊞◌, one_attempt, spending, at_limit, emptied, Refusal, Placement, Shape, Recovery, Region, OddRegion, refused_by}
use Rattle.outcomes.specs.declared.Kind.{Kind}
use Rattle.outcomes.specs.Ends.{kind_of, spent}
use Rattle.settling.specs.declared.standing.Tally.{Tally}
use Rattle.settling.specs.Standings.{tally_refused}

tallies : (a b c d e f g h i j a' b' c' d' e' f' g' h' i' j' : ℕ) → a ≡ a' → b ≡ b' → c ≡ c' → d ≡ d' → e ≡ e' → f ≡ f' → g ≡ g' → h ≡ h' → i ≡ i' → j ≡ j'
    → tally a b c d e f g h i j ≡ tally a' b' c' d' e' f' g' h' i' j'
tallies a b c d e f g h i j a' b' c' d' e' f' g' h' i' j' p1 p2 p3 p4 p5 p6 p7 p8 p9 p10 = cc

-- two counts with the same fields
pub same_counts : (c d : Counts) → c.front_empty ≡ d.front_empty → c.attempts ≡ d.attempts → c.placement ≡ d.placement → c.invalid_quad ≡ d.invalid_quad
    → c.recovery ≡ d.recovery → c.region ≡ d.region → c.odd_region ≡ d.odd_region → c.mismatch_insertions ≡ d.mismatch_insertions → c.limit ≡ d.limit → c.trials ≡ d.trials → c ≡ d
unfolding tally
same_counts c d p1 p2 p3 p4 p5 p6 p7 p8 p9 p10 =
    tallies c.front_empty c.attempts c.placement c.invalid_quad c.recovery c.region c.odd_region c.mismatch_insertions c.limit c.trials
    d.front_empty d.attempts d.placement d.invalid_quad d.recovery d.region d.odd_region d.mismatch_insertions d.limit d.trials p1 p2 p3 p4 p5 p6 p7 p8 p9 p10

-- the counts of a standing by its tally and attempts
abbrev pub counts_by : Tally → ℕ → Counts
counts_by t a = tally t.front_empty a t.placement t.invalid_quad t.recovery t.region t.odd_region t.mismatch_insertions t.limit t.trials

pub attempted_counts : (t : Tally) (a b : ℕ) → b ≡ a + 1 → counts_by t b ≡ counts_by t a ⊞ one_attempt
unfolding tally ◌⊞◌ one_attempt
attempted_counts t a b e = same_counts (counts_by t b) (counts_by t a ⊞ one_attempt) (omega arith) (omega arith) (omega arith) (omega arith) (omega arith) (omega arith) (omega arith) (omega arith) (omega arith) (omega arith)

pub limited_counts : (t : Tally) (a : ℕ) → tally t.front_empty a t.placement t.invalid_quad t.recovery t.region t.odd_region t.mismatch_insertions (t.limit + 1) t.trials ≡ counts_by t a ⊞ at_limit
unfolding tally ◌⊞◌ at_limit
limited_counts t a = same_counts _ _ (omega arith) (omega arith) (omega arith) (omega arith) (omega arith) (omega arith) (omega arith) (omega arith) (omega arith) (omega arith)

pub emptied_counts : (t : Tally) (a : ℕ) → tally (t.front_empty + 1) a t.placement t.invalid_quad t.recovery t.region t.odd_region t.mismatch_insertions t.limit t.trials ≡ counts_by t a ⊞ emptied
unfolding tally ◌⊞◌ emptied
emptied_counts t a = same_counts _ _ (omega arith) (omega arith) (omega arith) (omega arith) (omega arith) (omega arith) (omega arith) (omega arith) (omega arith) (omega arith)

pub tried_counts : (t : Tally) (a b n k f : ℕ) → b ≡ a → tally t.front_empty b t.placement t.invalid_quad t.recovery t.region t.odd_region (t.mismatch_insertions + n) t.limit (t.trials + k) ≡ counts_by t a ⊞ spending (spent n k f)
unfolding tally ◌⊞◌ spending
tried_counts t a b n k f e = same_counts _ _ (omega arith) (omega arith) (omega arith) (omega arith) (omega arith) (omega arith) (omega arith) (omega arith) (omega arith) (omega arith)

refusal_counts : (t : Tally) (a : ℕ) (why : Refusal) → counts_by (tally_refused (kind_of why) t) a ≡ counts_by t a ⊞ refused_by why
unfolding tally ◌⊞◌ refused_by
refusal_counts t a Placement = same_counts _ _ (omega arith) (omega arith) (omega arith) (omega arith) (omega arith) (omega arith) (omega arith) (omega arith) (omega arith) (omega arith)
refusal_counts t a Shape = same_counts _ _ (omega arith) (omega arith) (omega arith) (omega arith) (omega arith) (omega arith) (omega arith) (omega arith) (omega arith) (omega arith)
refusal_counts t a Recovery = same_counts _ _ (omega arith) (omega arith) (omega arith) (omega arith) (omega arith) (omega arith) (omega arith) (omega arith) (omega arith) (omega arith)
refusal_counts t a Region = same_counts _ _ (omega arith) (omega arith) (omega arith) (omega arith) (omega arith) (omega arith) (omega arith) (omega arith) (omega arith) (omega arith)
refusal_counts t a OddRegion = same_counts _ _ (omega arith) (omega arith) (omega arith) (omega arith) (omega arith) (omega arith) (omega arith) (omega arith) (omega arith) (omega arith)

-- a refusal under the kind
pub refused_counts : (t t' : Tally) (a : ℕ) (kind : Kind) (why : Refusal) → t' ≡ tally_refused kind t → kind ≡ kind_of why → counts_by t' a ≡ counts_by t a ⊞ refused_by why
refused_counts t t' a kind why e f = ap (λ (z : Tally). counts_by z a) (e ∙ ap (λ (z : Kind). tally_refused z t) f) ∙ refusal_counts t a why
