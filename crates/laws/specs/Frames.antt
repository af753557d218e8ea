-- What a store changes, and what stays: the words below an offset, those from it on, and those outside a range.
use Rattle.std.specs.Prelude.{◌≡◌, ◌≢◌, ◌<◌, ◌≤◌}
use Rattle.laws.specs.Kit.{refl, sym, ◌∙◌, ℕ, arith, List, length, get_or, set, length-set, get_or-set_same, get_or-set_other}

-- ---- one store

pub on : (w : List ℕ) (i v : ℕ) → i < length w → get_or (set w i v) i 0 ≡ v
on w i v h = get_or-set_same w i v 0 h

pub off : (w : List ℕ) (i v j : ℕ) → j ≢ i → get_or (set w i v) j 0 ≡ get_or w j 0
off w i v j h = get_or-set_other w i j v 0 h

-- ---- the words below an offset

-- the words below b are the same
pub record Under (w w' : List ℕ) (b : ℕ) : Type 0 where
  pub len : length w' ≡ length w
  pub low : (i : ℕ) → i < b → get_or w' i 0 ≡ get_or w i 0

pub under_refl : (w : List ℕ) (b : ℕ) → Under w w b
under_refl w b = record { len = refl; low = λ i h. refl }

pub under_sym : (w w' : List ℕ) (b : ℕ) → Under w w' b → Under w' w b
under_sym w w' b h = record { len = sym h.len; low = λ i l. sym (h.low i l) }

pub under_trans : (w w1 w2 : List ℕ) (b : ℕ) → Under w w1 b → Under w1 w2 b → Under w w2 b
under_trans w w1 w2 b h k = record { len = k.len ∙ h.len; low = λ i l. k.low i l ∙ h.low i l }

pub under_less : (w w' : List ℕ) (a b : ℕ) → a ≤ b → Under w w' b → Under w w' a
under_less w w' a b h k = record { len = k.len; low = λ i l. k.low i (omega arith) }

pub under_set : (w : List ℕ) (b i v : ℕ) → b ≤ i → Under w (set w i v) b
under_set w b i v h = record { len = simp length-set; low = λ j l. off w i v j (omega arith) }

-- ---- the words from an offset on

-- the words from b on are the same
pub record Keeps (w w' : List ℕ) (b : ℕ) : Type 0 where
  pub len : length w' ≡ length w
  pub high : (i : ℕ) → b ≤ i → get_or w' i 0 ≡ get_or w i 0

pub keeps_refl : (w : List ℕ) (b : ℕ) → Keeps w w b
keeps_refl w b = record { len = refl; high = λ i h. refl }

pub keeps_trans : (w w1 w2 : List ℕ) (b : ℕ) → Keeps w w1 b → Keeps w1 w2 b → Keeps w w2 b
keeps_trans w w1 w2 b h k = record { len = k.len ∙ h.len; high = λ i l. k.high i l ∙ h.high i l }

pub keeps_more : (w w' : List ℕ) (a b : ℕ) → a ≤ b → Keeps w w' a → Keeps w w' b
keeps_more w w' a b h k = record { len = k.len; high = λ i l. k.high i (omega arith) }

pub keeps_set : (w : List ℕ) (b i v : ℕ) → i < b → Keeps w (set w i v) b
keeps_set w b i v h = record { len = simp length-set; high = λ j l. off w i v j (omega arith) }

-- the first n words are 0, and nothing else changed
pub record Zeros (w w' : List ℕ) (n : ℕ) : Type 0 where
  pub zero : (k : ℕ) → k < n → get_or w' k 0 ≡ 0
  pub keeps : Keeps w w' n

-- ---- a range

-- the words from a up to e may have changed, and no others
pub record Only (w w' : List ℕ) (a e : ℕ) : Type 0 where
  pub len : length w' ≡ length w
  pub low : (i : ℕ) → i < a → get_or w' i 0 ≡ get_or w i 0
  pub high : (i : ℕ) → e ≤ i → get_or w' i 0 ≡ get_or w i 0

pub only_refl : (w : List ℕ) (a e : ℕ) → Only w w a e
only_refl w a e = record { len = refl; low = λ i h. refl; high = λ i h. refl }

pub only_trans : (w w1 w2 : List ℕ) (a e : ℕ) → Only w w1 a e → Only w1 w2 a e → Only w w2 a e
only_trans w w1 w2 a e h k = record { len = k.len ∙ h.len; low = λ i l. k.low i l ∙ h.low i l; high = λ i l. k.high i l ∙ h.high i l }

-- the words from a up to e are the same
pub record Stays (w w' : List ℕ) (a e : ℕ) : Type 0 where
  pub len : length w' ≡ length w
  pub same : (i : ℕ) → a ≤ i → i < e → get_or w' i 0 ≡ get_or w i 0

pub stays_refl : (w : List ℕ) (a e : ℕ) → Stays w w a e
stays_refl w a e = record { len = refl; same = λ i l u. refl }

pub stays_trans : (w w1 w2 : List ℕ) (a e : ℕ) → Stays w w1 a e → Stays w1 w2 a e → Stays w w2 a e
stays_trans w w1 w2 a e h k = record { len = k.len ∙ h.len; same = λ i l u. k.same i l u ∙ h.same i l u }
