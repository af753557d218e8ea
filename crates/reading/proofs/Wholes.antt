-- The whole input: the line of its numbers, its two lists, and its end.
use Rattle.std.specs.Prelude.{◌≡◌, ◌<◌, ◌≤◌, ◌∷◌, Option as Found, None}
use Rattle.laws.specs.Kit.{refl, true, false, arith, subst, [], sym, ◌∙◌, ap, Option, none, some, ℕ, lt-leb, le-leb, List, length}
use Rattle.laws.specs.Lists.{nothing}
use Rattle.definition.specs.Lists.{empty}
use Rattle.definition.specs.Text.{Bytes, Taken, Reader, take_on, ◌>>=◌, ◌>>◌, give, lit, exactly, hex, node, three, times, most_bytes, Input, input}
use Rattle.reading.specs.Found.{taken, triangle_list, point_list}
use Rattle.reading.specs.Whole.{to_the_end, whole, heading, WholeRead}
use Rattle.reading.specs.declared.found.Header.{Header}

-- ---- a line of names, then rows

module _ {A : Type 0} (names : Bytes) (r : Reader A) (x : Bytes) where
  pub names_off : none ≡ exactly names x → none ≡ (exactly names >> r) x
  unfolding ◌>>◌ take_on
  names_off e = rw (← e)

  pub names_on : (p : Bytes) → taken tt p ≡ exactly names x → r p ≡ (exactly names >> r) x
  unfolding ◌>>◌ take_on
  names_on p e = rw (← e)

-- ---- the definition's input by its parts

-- two readings are one where each value's continuation is
chained : {A B C : Type 0} (g : A → Reader C) (k : B → Reader C) (f : A → Reader B) (o : Option (Taken A))
    → ((a : A) (x : Bytes) → g a x ≡ take_on k (f a x)) → take_on g o ≡ take_on k (take_on f o)
unfolding take_on
chained g k f none h = refl
chained g k f (some t) h = h t.value t.rest

alike : {A C : Type 0} (f g : A → Reader C) (o : Option (Taken A)) → ((a : A) (x : Bytes) → f a x ≡ g a x) → take_on f o ≡ take_on g o
unfolding take_on
alike f g none h = refl
alike f g (some t) h = h t.value t.rest

-- what follows the two lists, one, none
both : Header → List (List ℕ) → List (List ℕ) → Reader Input
both h ts ps = give (record { size = h.size; stop = h.stop; triangles = ts; points = ps })

second : Header → List (List ℕ) → Reader Input
second h ts = point_list h.points >>= both h ts

lists : Header → Reader Input
lists h = triangle_list h.triangles >>= second h

second_on : (h : Header) (ts : List (List ℕ)) (x : Bytes) → (lit "x y z\n" >> (times h.points (three hex) >>= both h ts)) x ≡ second h ts x
unfolding second point_list ◌>>=◌ ◌>>◌
second_on h ts x = chained _ _ _ _ (λ u y. refl)

lists_on : (h : Header) (x : Bytes)
    → (lit "n0 n1 n2\n" >> (times h.triangles (three node) >>= λ ts. lit "x y z\n" >> (times h.points (three hex) >>= both h ts))) x ≡ lists h x
unfolding lists triangle_list ◌>>=◌ ◌>>◌
lists_on h x = chained _ _ _ _ λ u y. alike _ _ _ λ ts z. second_on h ts z

given : (h : Header) (x : Bytes) → take_on lists (give h x) ≡ lists h x
unfolding take_on give
given h x = refl

input_is : (s : Bytes) → input s ≡ take_on lists (heading s)
unfolding input heading ◌>>=◌ ◌>>◌ both
input_is s =
    chained _ lists _ _ λ u x. chained _ lists _ _ λ t x. chained _ lists _ _ λ u x. chained _ lists _ _ λ p x. chained _ lists _ _ λ u x.
    chained _ lists _ _ λ z x. chained _ lists _ _ λ u x. chained _ lists _ _ λ r x. chained _ lists _ _ λ u x.
    chained _ lists _ _ λ u x.
    let h : Header = record { triangles = t; points = p; size = z; stop = r } in lists_on h x ∙ sym (given h x)

-- ---- each way out of the reading

some_left : (x : Bytes) → 0 < length x → empty x ≡ false
unfolding empty
some_left [] h = absurd (omega arith)
some_left (b ∷ x) h = refl

none_left : (x : Bytes) → length x ≡ 0 → empty x ≡ true
unfolding empty
none_left x h = rw (nothing x h)

-- the input is bad
pub bad : {s tris₀ tris bits₀ bits : Bytes} {r : Found Header} → r ≡ None → none ≡ whole s → WholeRead s tris₀ tris bits₀ bits r
bad {s} {tris₀} {tris} {bits₀} {bits} e f = subst (WholeRead s tris₀ tris bits₀ bits) (sym e) (record { reads = f; kept = tt })

pub too_long : (s : Bytes) → 8192 < length s → none ≡ whole s
unfolding whole most_bytes
too_long s h = rw (lt-leb (length s) 8192 h)

module _ (s : Bytes) (short : length s ≤ 8192) where
  whole_is : whole s ≡ to_the_end (take_on lists (heading s))
  unfolding whole most_bytes
  whole_is = rw (le-leb (length s) 8192 short) (ap to_the_end (input_is s))

  pub no_start : none ≡ heading s → none ≡ whole s
  unfolding to_the_end take_on
  no_start e = rw (whole_is, ← e)

  module _ (h : Header) (a : Bytes) (e : taken h a ≡ heading s) where
    pub no_triangles : none ≡ triangle_list h.triangles a → none ≡ whole s
    unfolding to_the_end take_on lists ◌>>=◌
    no_triangles f = rw (whole_is, ← e, ← f)

    module _ (ts : List (List ℕ)) (b : Bytes) (f : taken ts b ≡ triangle_list h.triangles a) where
      pub no_points : none ≡ point_list h.points b → none ≡ whole s
      unfolding to_the_end take_on lists second ◌>>=◌
      no_points g = rw (whole_is, ← e, ← f, ← g)

      module _ (ps : List (List ℕ)) (c : Bytes) (g : taken ps c ≡ point_list h.points b) where
        pub more : 0 < length c → none ≡ whole s
        unfolding to_the_end take_on lists second both give ◌>>=◌ empty
        more l = rw (whole_is, ← e, ← f, ← g, some_left c l)

        pub all_read : length c ≡ 0 → some (record { size = h.size; stop = h.stop; triangles = ts; points = ps }) ≡ whole s
        unfolding to_the_end take_on lists second both give ◌>>=◌ empty
        all_read l = rw (whole_is, ← e, ← f, ← g, none_left c l)
