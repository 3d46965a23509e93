-- From a script's lines to the ends of the program.
use Rattle.std.proofs.Common.{◌≡◌, ℕ, ◌≤◌, ◌⊎◌, inl, inr, List, length, sym, subst}
use Rattle.std.specs.Prelude.{OnOk, Result, Ok, Err}
use Rattle.std.specs.Io.KnownBytes.{IsAtEnd, Appends}
use Rattle.txn_script.specs.declared.line.Line as first
use Rattle.txn_script.specs.declared.script.Why as first_reasons
use Rattle.txn_script.specs.Text as first_path
use Rattle.txn_script.proofs.OneReading as first_reading
use Rattle.txn_lines.proofs.LongText.{no_script}
use Rattle.txn_report.specs.declared.report.Report.{Report}
use Rattle.txn_report.specs.Text.{text_of_report}
use Rattle.txn_stream.specs.Bytes.{most_bytes, ReadsAll}
use Rattle.txn_run.specs.declared.program.End.{End}
use Rattle.txn_run.specs.declared.program.End.TheVariants.{Done, BadWords, BadLine, ReadFault, WriteFault, OutOfMemory}
use Rattle.txn_run.specs.Program.{Ran, IsConfirmed, IsConfirmedIfFirst, Wrote, Edges, EndOfRun}

-- what was confirmed of lines of the first path is so of a script of these
confirmed_script : (bytes : List ℕ) (lines : List first.Line) (report : Report) → first_path.IsScript bytes lines → IsConfirmed lines report → IsConfirmedIfFirst bytes report
confirmed_script bytes lines report script confirmed = λ others s. subst (λ ls. IsConfirmed ls report) (first_reading.one_script bytes lines others script s) confirmed

-- and so is what came of it
pub confirmed_so : {X E : Type 0} (bytes : List ℕ) (lines : List first.Line) (report : Report) (r : Result X E) → first_path.IsScript bytes lines → OnOk r (IsConfirmed lines report) → OnOk r (IsConfirmedIfFirst bytes report)
confirmed_so bytes lines report (Ok x) script c = confirmed_script bytes lines report script c
confirmed_so bytes lines report (Err e) script c = tt

-- what has a bad line is no script of the first path
pub confirmed_other : (bytes : List ℕ) (line : ℕ) (why : first_reasons.Why) (report : Report) → first_path.IsFirstBad bytes line why → IsConfirmedIfFirst bytes report
confirmed_other bytes line why report bad = λ lines script. absurd (first_reading.apart bytes lines line why script bad)

-- a source whose bytes are a script was read to its end
ended : (e : Edges) (r : Report) (bytes : List ℕ) → IsAtEnd e.left_after ⊎ (most_bytes ≤ length bytes) → Ran bytes r → IsAtEnd e.left_after
ended e r bytes (inl at_end) ran = at_end
ended e r bytes (inr long) ran = absurd (no_script bytes ran.every.lines long ran.every.script)

pub wrote_run : (e : Edges) (r : Report) (bytes : List ℕ) (end : End) → e.read_faults_after ≡ e.read_faults → ReadsAll e.left e.left_after bytes → Ran bytes r → Wrote r e.written e.written_after e.write_faults e.write_faults_after end → EndOfRun e end
wrote_run e r bytes (Done report) unfailed reads ran w = record {
  unfailed = unfailed;
  bytes = bytes;
  consumed = reads.0;
  to_end = ended e r bytes reads.1 ran;
  ran = subst (λ q. Ran bytes q) (sym w.0) ran;
  text = subst (λ q. Appends e.written e.written_after (text_of_report q)) (sym w.0) w.1;
}
wrote_run e r bytes BadWords unfailed reads ran w = w
wrote_run e r bytes (BadLine line why) unfailed reads ran w = absurd w
wrote_run e r bytes ReadFault unfailed reads ran w = absurd w
wrote_run e r bytes (WriteFault taken) unfailed reads ran w = record {
  unfailed = unfailed;
  rose = w.0;
  bytes = bytes;
  consumed = reads.0;
  to_end = ended e r bytes reads.1 ran;
  report = r;
  ran = ran;
  short = w.1;
  text = w.2;
}
wrote_run e r bytes OutOfMemory unfailed reads ran w = tt
