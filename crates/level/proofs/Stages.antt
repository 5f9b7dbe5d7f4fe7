-- The whole scan by its stages: the lists' lengths, an empty level, the first fault, the extent; and where a fault is
-- still ahead.
-- Assumes nothing.
use mathlib.Core.Path.{◌≡◌, refl, sym, ◌∙◌}
use mathlib.Core.Bool.{true, false, false≢true}
use mathlib.Core.List.{List}
use Prim.Native.Nat.{ℕ, ◌≤◌, ◌<◌}
use native.Mathlib.Decide.{dec_lt}
use native.Mathlib.Omega.{arith}
use borrow.Author.Tests.{le-leb, leb-true}
use lib.ListN.{length, get_or}
use lib.Ieee.{Float, nan}
use Rattle.places.specs.Places.{every}
use Rattle.places.specs.Faults.{first_fault, NoFaultBefore}
use Rattle.places.proofs.Every.{every-at, every-of}
use Rattle.places.proofs.Faults.{fault-ahead}
use Rattle.reading.specs.Reading.{marked_at}
use Rattle.reading.specs.Level.{fault_at}
use Rattle.level.specs.Ranks.{UsableFrom, UnusableFrom}
use Rattle.level.specs.Scan.{refused, extent_of, scan_of}
use Rattle.reading.proofs.Stages.{Exactly, exactly}
use Rattle.reading.proofs.Told.{sound-is, faultless-is, fault-other}

module _ (level : List Float) (grounds : List ℕ) where
  -- by stages; nothing is written, so there is always room
  pub stages
      : Exactly refused (extent_of level) (λ s. s.code) (λ s. s.place) (length level) (length grounds) true
      (fault_at level grounds) (scan_of level grounds)
  unfolding scan_of
  stages =
      exactly refused (extent_of level) (λ s. s.code) (λ s. s.place) (λ c i. refl) (λ c i. refl) refl (length level)
      (length grounds) true (fault_at level grounds) (λ i. fault-other (get_or level i nan) (get_or grounds i 0))

  pub at-unequal : (length level ≡ length grounds → ⊥) → scan_of level grounds ≡ refused 6 0
  at-unequal = stages.six.1

  pub at-empty : length level ≡ length grounds → length level ≡ 0 → scan_of level grounds ≡ refused 14 0
  at-empty e z = stages.fourteen.1 (e, z)

  module _ (e : length level ≡ length grounds) (n : length level ≡ 0 → ⊥) where
    pub at-extent : NoFaultBefore (fault_at level grounds) (length level) → scan_of level grounds ≡ extent_of level
    at-extent b = stages.then-given (stages.nothing.1 (e, omega arith, refl, b))

    pub at-fault
        : first_fault (fault_at level grounds) (length level) < length level →
        scan_of level grounds
        ≡ refused (fault_at level grounds (first_fault (fault_at level grounds) (length level)))
        (first_fault (fault_at level grounds) (length level))
    at-fault h = stages.first e refl h

  -- ---- marks and readings

  -- where not all marks are 0 or 1, or a reading isn't usable, there is a fault
  pub badly-marked
      : every (marked_at grounds) (length level) ≡ false →
      first_fault (fault_at level grounds) (length level) < length level
  badly-marked n =
      fault-ahead (fault_at level grounds) (length level)
      (λ b. false≢true
      (sym n
      ∙ every-of (marked_at grounds) (length level)
      (λ j h. le-leb (get_or grounds j 0) 1 (faultless-is (get_or level j nan) (get_or grounds j 0) (b j h)).0)))

  pub unusable-ahead
      : (from to : ℕ) → to ≤ length level → UnusableFrom level from to →
      first_fault (fault_at level grounds) (length level) < length level
  unusable-ahead from to l u =
      let j = u.0 in
      fault-ahead (fault_at level grounds) (length level)
      (λ b. let h = u.2 in
      let k : j < length level = omega arith in
      false≢true (sym u.3 ∙ (faultless-is (get_or level j nan) (get_or grounds j 0) (b j k)).1))

  -- where all marks are 0 or 1, usable readings are passed
  pub passed-on
      : (from to : ℕ) → every (marked_at grounds) (length level) ≡ true → to ≤ length level →
      NoFaultBefore (fault_at level grounds) from → UsableFrom level from to → NoFaultBefore (fault_at level grounds) to
  passed-on from to m l b u j h =
      elim (dec_lt j from) [
        | yes k ↦ b j k
        | no k ↦
            let i : j < length level = omega arith in
            sound-is (get_or level j nan) (get_or grounds j 0)
            (leb-true (get_or grounds j 0) 1 (every-at (marked_at grounds) (length level) j m i))
            (u j (omega arith) h)
      ]
