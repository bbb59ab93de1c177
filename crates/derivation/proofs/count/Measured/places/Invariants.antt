use Rattle.std.proofs.Common.{◌≡◌, ℕ, ◌*◌, ◌<◌, ◌≤◌, length, get_or}
use Rattle.derivation.specs.Held.{held_at}
use Rattle.derivation.proofs.HeldLaws.{places_to}
use Rattle.derivation.proofs.count.Measured.places.Given as goal

-- what the rows so far hold, and their places
abbrev pub invariant-loop-r : goal.invariant-loop-r
invariant-loop-r l = record {
  long : length l.held ≡ 128;
  known : (p : ℕ) → p < l.r → get_or l.held p 0 ≡ held_at l.self.types.now l.self.rows.now p;
  counted : l.count ≡ places_to l.self.types.now l.self.rows.now l.r;
  small : l.count ≤ 2064 * l.r;
}
