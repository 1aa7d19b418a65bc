-- What slips promise, as one statement. A verdict that a slip can record, written and read back, is the same verdict with the same row
-- count, also from the first 17 bytes of the buffer that it was written to. Two different ones never share their bytes. Whatever reads
-- well is a possible verdict. Bytes that read as version 2 are what writing that verdict gives. The bytes that version 1 wrote for a
-- verdict that it could record read as the same verdict with the row count not known; and bytes that read as version 1 are such bytes,
-- without a row count.
use Rattle.std.specs.Prelude.{◌≡◌, true, List, ℕ, ◌≤◌, length, take, None, Ok}
use Rattle.basics.specs.Bytes.{IsBytes, le_number}
use Rattle.verdict.specs.Verdict.{fields_fit, possible, writable, without_count}
use Rattle.verdict.specs.declared.Verdict.{Verdict}
use Rattle.slip.specs.Slip.{version, old_version, version_place, slip_size, slip_of, read_of, slip_buffer}
use Rattle.slip.specs.Version1.{old_slip_of}

pub record Slips : Type 0 where
  pub read_back : (v : Verdict) → writable v ≡ true → read_of (slip_of v) ≡ Ok v
  pub buffer-back : (v : Verdict) (buffer : List ℕ) → writable v ≡ true → slip_size ≤ length buffer
      → read_of (take slip_size (slip_buffer v buffer)) ≡ Ok v
  pub slips-differ : (v w : Verdict) → writable v ≡ true → writable w ≡ true → slip_of v ≡ slip_of w → v ≡ w
  pub read-possible : (s : List ℕ) (v : Verdict) → read_of s ≡ Ok v → possible v ≡ true
  pub write-back : (s : List ℕ) (v : Verdict) → IsBytes s → read_of s ≡ Ok v → le_number 2 s version_place ≡ version
      → (writable v ≡ true) × (s ≡ slip_of v)
  pub old-read : (v : Verdict) → fields_fit v ≡ true → read_of (old_slip_of v) ≡ Ok (without_count v)
  pub old-back : (s : List ℕ) (v : Verdict) → IsBytes s → read_of s ≡ Ok v → le_number 2 s version_place ≡ old_version
      → (v.rows ≡ None) × (s ≡ old_slip_of v)
