-- The comparisons find the rotation.
use Rattle.filing.proofs.Rotations.{from_first, from_second, from_third, from_third'}
use Rattle.filing.proofs.places.put_rotated.Goals as goal

pub returns-then-a-c : goal.returns-then-a-c
returns-then-a-c c = rw (from_first _ _ _ c.if-a-b.true c.if-a-c.true) c.put.ensures

pub returns-then-a-b : goal.returns-then-a-b
returns-then-a-b c = rw (from_third _ _ _ c.if-a-b.true c.if-a-c.false) c.put-then-a-b.ensures

pub returns-then-b-c : goal.returns-then-b-c
returns-then-b-c c = rw (from_second _ _ _ c.if-a-b.false c.if-b-c.true) c.put-then-b-c.ensures

pub returns : goal.returns
returns c = rw (from_third' _ _ _ c.if-a-b.false c.if-b-c.false) c.put-2.ensures
