-- How a run of a script, and of the program, ends.
use Rattle.std.specs.Prelude.{◌≡◌, ℕ, ◌<◌, true, List, length, Option, reverse, take}
use Rattle.std.specs.Io.KnownBytes.{Consumes, IsAtEnd, Appends}
use Rattle.std.specs.List.{All}
use Rattle.txn_alike.specs.Alike.{AreAlike}
use Rattle.txn_script.specs.Text as first_path
use Rattle.txn_script.specs.declared.line.Line as first
use Rattle.txn_first.specs.Lawful as headline
use Rattle.txn_lines.specs.Text.{IsScript, IsFirstBad}
use Rattle.txn_lines.specs.declared.line.Line.{Line}
use Rattle.txn_lines.specs.declared.script.Why.{Why}
use Rattle.txn_machine.specs.Lawful.{Lawful}
use Rattle.txn_report.specs.declared.report.Report.{Report}
use Rattle.txn_report.specs.declared.report.SleepNote.{SleepNote}
use Rattle.txn_report.specs.Text.{text_of_report}
use Rattle.txn_stream.specs.Bytes.{Rose, ReadsAll}
use Rattle.txn_run.specs.Calm.{AreCalm}
use Rattle.txn_run.specs.Caused.{HaveCauses}
use Rattle.txn_run.specs.Certain.{AreCertain}
use Rattle.txn_run.specs.Doubt.{AreToldOfDoubt}
use Rattle.txn_run.specs.Licensed.{AreLicensed}
use Rattle.txn_run.specs.Refused.{AreExact}
use Rattle.txn_run.specs.Settled.{AreSettled}
use Rattle.txn_run.specs.Whole.{AreWhole}
use Rattle.txn_run.specs.declared.program.End.{End}
use Rattle.txn_run.specs.declared.program.End.TheVariants.{Done, BadWords, BadLine, ReadFault, WriteFault, OutOfMemory}
use Rattle.txn_run.specs.declared.program.ScriptStop.{ScriptStop}
use Rattle.txn_run.specs.declared.program.ScriptStop.TheVariants.{Bad, Memory}

-- the exit status
abbrev pub status_of_end : End → ℕ
status_of_end (Done report) = 0
status_of_end BadWords = 2
status_of_end (BadLine line why) = 3
status_of_end ReadFault = 4
status_of_end (WriteFault written) = 5
status_of_end OutOfMemory = 6

-- the bytes are a script, and the report is what it did
pub record RanScript (bytes : List ℕ) (report : Report) : Type 0 where
  pub lines : List Line
  pub script : IsScript bytes lines
  pub lawful : Lawful lines report
  -- and each call that failed has its cause
  pub causes : HaveCauses (reverse lines) report
  -- a call of a transaction that is in doubt fails with an error that says so
  pub doubts : AreToldOfDoubt (reverse lines) report
  -- one is refused only by how far its transaction has come, and by what it has written
  pub exact : AreExact (reverse lines) report
  -- and one with which nothing went wrong does not fail
  pub calm : AreCalm (reverse lines) report
  -- each transaction is whole at one commit timestamp or not there at all, as its commits and its rollbacks answered
  pub whole : AreWhole (reverse lines) report
  -- each request had its licence when it was sent
  pub licensed : AreLicensed (reverse lines) report
  -- and what a reply said of locks is so at the end
  pub settled : AreSettled (reverse lines) report
  -- a call for a timestamp is never in doubt
  pub certain : AreCertain (reverse lines) report

-- The lines ran on the machine of the first path, too, of whose report more is promised, and the two reports tell the same. No call sleeps, but
-- its heartbeat may.
pub record IsConfirmed (lines : List first.Line) (report : Report) : Type 0 where
  pub machine : Report
  pub lawful : headline.Lawful lines machine
  pub alike : AreAlike machine report
  pub awake : All (λ (s : SleepNote). s.ticket.beat ≡ true) report.sleeps

-- so of a script of the first path
abbrev pub IsConfirmedIfFirst : List ℕ → Report → Type 0
IsConfirmedIfFirst bytes report = (lines : List first.Line) → first_path.IsScript bytes lines → IsConfirmed lines report

-- The report says what is promised of every script, and of one of the first path it is confirmed.
pub record Ran (bytes : List ℕ) (report : Report) : Type 0 where
  pub every : RanScript bytes report
  pub first : IsConfirmedIfFirst bytes report

-- how the run of a script of these bytes ends
abbrev pub EndOfScript : List ℕ → End → Type 0
EndOfScript bytes (Done report) = Ran bytes report
EndOfScript bytes BadWords = ⊥
EndOfScript bytes (BadLine line why) = IsFirstBad bytes line why
EndOfScript bytes ReadFault = ⊥
EndOfScript bytes (WriteFault written) = ⊥
EndOfScript bytes OutOfMemory = Unit {0}

-- why the script of these bytes gives no report
abbrev pub StopOfLines : List ℕ → ScriptStop → Type 0
StopOfLines bytes (Bad bad) = IsFirstBad bytes bad.line bad.why
StopOfLines bytes Memory = Unit {0}

-- what became of the text of a report
abbrev pub Wrote : Report → Option (List ℕ) → Option (List ℕ) → ℕ → ℕ → End → Type 0
Wrote r written after faults faults_after (Done report) = (report ≡ r) × Appends written after (text_of_report r)
Wrote r written after faults faults_after BadWords = ⊥
Wrote r written after faults faults_after (BadLine line why) = ⊥
Wrote r written after faults faults_after ReadFault = ⊥
Wrote r written after faults faults_after (WriteFault taken) = Rose faults faults_after × (taken < length (text_of_report r)) × Appends written after (take taken (text_of_report r))
Wrote r written after faults faults_after OutOfMemory = Unit {0}

-- What a source and a sink were before a call, and are after it: bytes, where they are told, and counts of faults.
pub record Edges : Type 0 where
  pub left : Option (List ℕ)
  pub left_after : Option (List ℕ)
  pub read_faults : ℕ
  pub read_faults_after : ℕ
  pub written : Option (List ℕ)
  pub written_after : Option (List ℕ)
  pub write_faults : ℕ
  pub write_faults_after : ℕ

-- no read failed, the source was read to its end, what it had is a script, and the sink was given the text of its report
pub record Reported (e : Edges) (report : Report) : Type 0 where
  pub unfailed : e.read_faults_after ≡ e.read_faults
  pub bytes : List ℕ
  pub consumed : Consumes e.left e.left_after bytes
  pub to_end : IsAtEnd e.left_after
  pub ran : Ran bytes report
  pub text : Appends e.written e.written_after (text_of_report report)

-- no read failed, and the first bad line stands among what was read, whatever follows it
pub record FoundBad (e : Edges) (line : ℕ) (why : Why) : Type 0 where
  pub unfailed : e.read_faults_after ≡ e.read_faults
  pub bytes : List ℕ
  pub read : ReadsAll e.left e.left_after bytes
  pub bad : IsFirstBad bytes line why

-- no read failed, and the sink took the first bytes of the text of a report for the source's script, and then failed
pub record CutShort (e : Edges) (taken : ℕ) : Type 0 where
  pub unfailed : e.read_faults_after ≡ e.read_faults
  pub rose : Rose e.write_faults e.write_faults_after
  pub bytes : List ℕ
  pub consumed : Consumes e.left e.left_after bytes
  pub to_end : IsAtEnd e.left_after
  pub report : Report
  pub ran : Ran bytes report
  pub short : taken < length (text_of_report report)
  pub text : Appends e.written e.written_after (take taken (text_of_report report))

-- how the program ends, without words
abbrev pub EndOfRun : Edges → End → Type 0
EndOfRun e (Done report) = Reported e report
EndOfRun e BadWords = ⊥
EndOfRun e (BadLine line why) = FoundBad e line why
EndOfRun e ReadFault = Rose e.read_faults e.read_faults_after
EndOfRun e (WriteFault written) = CutShort e written
EndOfRun e OutOfMemory = Unit {0}

-- and nothing is written where there is nothing to report
abbrev pub WritesNothing : {K : Type 0} → End → K → K → Type 0
WritesNothing (Done report) old new = Unit {0}
WritesNothing BadWords old new = new ≡ old
WritesNothing (BadLine line why) old new = new ≡ old
WritesNothing ReadFault old new = new ≡ old
WritesNothing (WriteFault written) old new = Unit {0}
WritesNothing OutOfMemory old new = Unit {0}
