-- A good text is never refused: the report over what was read of it has the number 0.
use Rattle.std.proofs.Common.{◌≡◌, ℕ, ◌<◌, ◌≤◌, List, arith, length, refl, subst, sym, take}
use Rattle.std.proofs.lemmas.List.{get_or-take, length-take, length-take-le}
use Rattle.stats.specs.Report.{report, report_number}
use Rattle.stats.proofs.Below.{all-below}
use Rattle.stats.proofs.Reports.{not-refused-report}
use Rattle.residue_text.specs.Input.{Reading, reading, read_input}
use Rattle.residue_text.specs.declared.Input.{Input}
use Rattle.residue_text.proofs.Good.{InRange, good_in_range}

-- the residues of a reading, as many as were read
abbrev residues_of : Reading → List ℕ
residues_of r = take r.input.residue_count r.residues

-- the number of the report over a reading
abbrev number_of : Reading → ℕ
number_of r = report_number (residues_of r) r.input.modulus r.input.limit_count r.input.limit_count

-- of any reading in range, from a room of at most 65,536
in_range_accepted : (r : Reading) → InRange r → length r.residues ≤ 65536 → number_of r ≡ 0
in_range_accepted r g room =
    let n = r.input.residue_count in
    let read : (i : ℕ) → i < length (residues_of r) → i < n = λ i h. omega (arith, simp length-take at h) in
    not-refused-report (residues_of r) r.input.modulus r.input.limit_count (simp length-take (omega arith)) g.least g.most
    (all-below r.input.modulus (residues_of r) (λ i h. rw (get_or-take n r.residues i 0 (read i h)) (g.below i (read i h))))

pub good_accepted : (text limits residues : List ℕ) → let r = read_input text limits residues in
    length r.residues ≤ 65536 → r.input.bad_part ≡ 0 → number_of r ≡ 0
good_accepted text limits residues room e = in_range_accepted (read_input text limits residues) (good_in_range text limits residues e) room

-- and so is the report of the program, over the parts of its rooms that were read
pub report_accepted : (text limits residues : List ℕ) (input : Input) (ls rs counts : List ℕ) → reading input ls rs ≡ read_input text limits residues
    → length rs ≤ 65536 → input.bad_part ≡ 0 → input.limit_count ≤ length ls → length counts ≡ input.limit_count
    → (report (take input.residue_count rs) input.modulus (take input.limit_count ls) counts).0.number ≡ 0
unfolding report
report_accepted text limits residues input ls rs counts e room good within same =
    let P : Reading → Type 0 = λ r. length r.residues ≤ 65536 → r.input.bad_part ≡ 0 → number_of r ≡ 0 in
    let none : number_of (reading input ls rs) ≡ 0 = subst P (sym e) (good_accepted text limits residues) room good in
    rw (length-take-le input.limit_count ls within, same, none) refl
