use Rattle.std.proofs.Common.{codes}
use Rattle.txn_report.specs.ErrorText.{text_of_lock_infos}
use Rattle.txn_report.proofs.ErrorTexts.{after_word}
use Rattle.txn_report.proofs.error_text.push_unresolved.Goals as goal

pub returns : goal.returns
returns c =
    after_word c.push_count_and_locks.result c.push_count_and_locks.new.out.items c.push_word.new.out.items c.args.out.now.items (codes "ResolveLockError ") (text_of_lock_infos c.args.locks.now)
    c.in_ok-push_word.ensures c.push_count_and_locks.ensures
