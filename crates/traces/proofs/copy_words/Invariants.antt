use Rattle.traces.proofs.Parts.{Copied}
use Rattle.traces.proofs.copy_words.Given as goal

-- the first k words are those of w
abbrev pub invariant-loop-k : goal.invariant-loop-k
invariant-loop-k l = Copied l.w l.initial.t l.t l.from l.n l.k
