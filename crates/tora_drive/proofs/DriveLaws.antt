-- An answer, as a continuation of the text.
use Rattle.std.proofs.Common.{◌≡◌, ℕ, ◌+◌, ◌≤◌, List, ◌∷◌, length, true, false, Some, refl, sym, ap, ◌∙◌}
use Rattle.tora_lines.specs.declared.session.TheConstants.{LONGEST_LINE}
use Rattle.tora_lines.specs.LineText.{prepend, text_from}
use Rattle.tora_lines.proofs.KindLaws.{goes_on}
use Rattle.tora_drive.specs.declared.setup.DriveSetup.{DriveSetup}
use Rattle.tora_drive.specs.DriveText.{DriveView, drive_reply, drive_rules}
use Rattle.tora_drive.specs.Recording.{says_notice, unrecorded, recorded_reply, recorded_rules}

pub goes : (setup next_setup : DriveSetup) (v next : DriveView) (line out : List ℕ) → length line ≤ LONGEST_LINE → next_setup ≡ setup → (next, out) ≡ drive_reply setup v line
    → (n : ℕ) (lines : List (List ℕ)) → text_from (drive_rules setup) v n (line ∷ lines) ≡ prepend out (text_from (drive_rules next_setup) next (n + 1) lines)
goes setup next_setup v next line out short same_setup h n lines =
    rw same_setup (goes_on (drive_rules setup) v line next out short (ap (λ (x : DriveView × List ℕ). Some x) (sym h)) n lines)

recorded_goes : (setup next_setup : DriveSetup) (v next : DriveView) (line out : List ℕ) → length line ≤ LONGEST_LINE → next_setup ≡ setup → (next, out) ≡ recorded_reply setup v line
    → (n : ℕ) (lines : List (List ℕ)) → text_from (recorded_rules setup) v n (line ∷ lines) ≡ prepend out (text_from (recorded_rules next_setup) next (n + 1) lines)
recorded_goes setup next_setup v next line out short same_setup h n lines =
    rw same_setup (goes_on (recorded_rules setup) v line next out short (ap (λ (x : DriveView × List ℕ). Some x) (sym h)) n lines)

-- the answer to a line `notice N K`, which cuts a session
pub notice_goes : (setup next_setup : DriveSetup) (v next : DriveView) (line out : List ℕ) → length line ≤ LONGEST_LINE → next_setup ≡ setup → says_notice line ≡ true → (next, out) ≡ unrecorded v
    → (n : ℕ) (lines : List (List ℕ)) → text_from (recorded_rules setup) v n (line ∷ lines) ≡ prepend out (text_from (recorded_rules next_setup) next (n + 1) lines)
notice_goes setup next_setup v next line out short same_setup says h n lines =
    let is : recorded_reply setup v line ≡ unrecorded v = rw says refl in
    recorded_goes setup next_setup v next line out short same_setup (h ∙ sym is) n lines

-- the answer to a line other than `notice N K`
pub other_goes : (setup next_setup : DriveSetup) (v next : DriveView) (line out : List ℕ) → length line ≤ LONGEST_LINE → next_setup ≡ setup → says_notice line ≡ false → (next, out) ≡ drive_reply setup v line
    → (n : ℕ) (lines : List (List ℕ)) → text_from (recorded_rules setup) v n (line ∷ lines) ≡ prepend out (text_from (recorded_rules next_setup) next (n + 1) lines)
other_goes setup next_setup v next line out short same_setup says h n lines =
    let is : recorded_reply setup v line ≡ drive_reply setup v line = rw says refl in
    recorded_goes setup next_setup v next line out short same_setup (h ∙ sym is) n lines
