use Rattle.txn_core.specs.Status.{allows_data}
use Rattle.txn_clients.proofs.Rows.{told_write}
use Rattle.std.proofs.Common.{◌∙◌, ap, is_none, refl, sym}
use Rattle.txn_kv.specs.declared.errors.Error.TheVariants.{DuplicateKeyInsertion, OperationAfterCommitError, Unimplemented}
use Rattle.txn_history.specs.Turn.{turn_of}
use Rattle.txn_buffer.specs.Contents.{known_at, known_value, write_at}
use Rattle.txn_core.specs.Transaction.{all_put_or_delete, insert_refusal, mutate_refusal, refused_unless, write_refusal}
use Rattle.txn_side.specs.Account.{locked_all, mutated_all}
use Rattle.txn_lines.specs.declared.act.Act.TheVariants as acts
use Rattle.txn_clients.specs.Accounts.{account_of}
use Rattle.txn_clients.specs.Failing.{KnowsAsk}
use Rattle.txn_side.specs.Account.{refusal}
use Rattle.txn_clients.proofs.Showing.{notes_so}
use Rattle.txn_clients.proofs.Taking.{all_locked, all_mutated, as_act, insert_refused, mutate_refused, taken_write, write_refused}
use Rattle.txn_buffer.specs.Writes.{after_delete, after_insert, after_put, delete_call, insert_call, put_call}
use Rattle.txn_clients.proofs.Standing.{acts_as, locked_steps, may_write, may_write_so, mutated_steps, writes_goes, written_step}
use Rattle.txn_clients.proofs.Doubting.{or_refuses, unless_refuses}
use Rattle.txn_clients.proofs.Moving.{acts_move, writes_move}
use Rattle.txn_clients.proofs.transactions.perform.Goals as goal

pub returns-in-Put-clause-told : goal.returns-in-Put-clause-told
returns-in-Put-clause-told g c = told_write _ _ _ c.args.transaction.now c.put.new.self c.args.out.now c.put.new._out _ c.put.ensures.ends c.requires.idle c.requires.ready c.put.ensures.quiet.0

pub returns-in-Insert-clause-told : goal.returns-in-Insert-clause-told
returns-in-Insert-clause-told g c = told_write _ _ _ c.args.transaction.now c.insert.new.self c.args.out.now c.insert.new._out _ c.insert.ensures.ends c.requires.idle c.requires.ready c.insert.ensures.quiet.0

pub returns-in-Delete-clause-told : goal.returns-in-Delete-clause-told
returns-in-Delete-clause-told g c = told_write _ _ _ c.args.transaction.now c.delete.new.self c.args.out.now c.delete.new._out _ c.delete.ensures.ends c.requires.idle c.requires.ready c.delete.ensures.quiet.0

pub returns-in-Mutate-clause-told : goal.returns-in-Mutate-clause-told
returns-in-Mutate-clause-told g c = told_write _ _ _ c.args.transaction.now c.batch_mutate.new.self c.args.out.now c.batch_mutate.new._out _ c.batch_mutate.ensures.ends c.requires.idle c.requires.ready c.batch_mutate.ensures.quiet.0

pub returns-in-Lock-clause-told : goal.returns-in-Lock-clause-told
returns-in-Lock-clause-told g c = told_write _ _ _ c.args.transaction.now c.lock_keys.new.self c.args.out.now c.lock_keys.new._out _ c.lock_keys.ensures.ends c.requires.idle c.requires.ready c.lock_keys.ensures.quiet.0

pub returns-in-Put-clause-taken : goal.returns-in-Put-clause-taken
returns-in-Put-clause-taken g c = as_act c.args.transaction.now c.put.new.self (turn_of c.put.result) (acts.Put c.in-Put.key c.in-Put.value) c.args.act c.in-Put.is
    (taken_write (acts.Put c.in-Put.key c.in-Put.value) (write_refusal c.args.transaction.now.status) _ c.args.transaction.now c.put.new.self (turn_of c.put.result) refl (write_refused c.args.transaction.now OperationAfterCommitError) (λ a d h. h.contents) c.requires.quiet c.put.ensures.ends)

pub returns-in-Insert-clause-taken : goal.returns-in-Insert-clause-taken
returns-in-Insert-clause-taken g c = as_act c.args.transaction.now c.insert.new.self (turn_of c.insert.result) (acts.Insert c.in-Insert.key c.in-Insert.value) c.args.act c.in-Insert.is
    (taken_write (acts.Insert c.in-Insert.key c.in-Insert.value) (insert_refusal c.args.transaction.now.status c.args.transaction.now.contents c.in-Insert.key) _ c.args.transaction.now c.insert.new.self (turn_of c.insert.result) refl (insert_refused c.args.transaction.now (is_none (known_value (known_at c.args.transaction.now.contents c.in-Insert.key))) OperationAfterCommitError DuplicateKeyInsertion) (λ a d h. h.contents) c.requires.quiet c.insert.ensures.ends)

pub returns-in-Delete-clause-taken : goal.returns-in-Delete-clause-taken
returns-in-Delete-clause-taken g c = as_act c.args.transaction.now c.delete.new.self (turn_of c.delete.result) (acts.Delete c.in-Delete.key) c.args.act c.in-Delete.is
    (taken_write (acts.Delete c.in-Delete.key) (write_refusal c.args.transaction.now.status) _ c.args.transaction.now c.delete.new.self (turn_of c.delete.result) refl (write_refused c.args.transaction.now OperationAfterCommitError) (λ a d h. h.contents) c.requires.quiet c.delete.ensures.ends)

pub returns-in-Mutate-clause-taken : goal.returns-in-Mutate-clause-taken
returns-in-Mutate-clause-taken g c = as_act c.args.transaction.now c.batch_mutate.new.self (turn_of c.batch_mutate.result) (acts.Mutate c.in-Mutate.mutations) c.args.act c.in-Mutate.is
    (taken_write (acts.Mutate c.in-Mutate.mutations) (mutate_refusal c.args.transaction.now.status c.into_vec.result.items) _ c.args.transaction.now c.batch_mutate.new.self (turn_of c.batch_mutate.result) refl (ap (mutate_refusal c.args.transaction.now.status) c.into_vec.ensures ∙ mutate_refused c.args.transaction.now c.in-Mutate.mutations OperationAfterCommitError Unimplemented) (λ a d h. all_mutated c.into_vec.result.items a d h.contents ∙ ap (mutated_all a) c.into_vec.ensures) c.requires.quiet c.batch_mutate.ensures.ends)

pub returns-in-Lock-clause-taken : goal.returns-in-Lock-clause-taken
returns-in-Lock-clause-taken g c = as_act c.args.transaction.now c.lock_keys.new.self (turn_of c.lock_keys.result) (acts.Lock c.in-Lock.keys) c.args.act c.in-Lock.is
    (taken_write (acts.Lock c.in-Lock.keys) (write_refusal c.args.transaction.now.status) _ c.args.transaction.now c.lock_keys.new.self (turn_of c.lock_keys.result) refl (write_refused c.args.transaction.now OperationAfterCommitError) (λ a d h. h.contents ∙ all_locked c.into_vec-in-Lock.result.items a ∙ ap (locked_all a) c.into_vec-in-Lock.ensures) c.requires.quiet c.lock_keys.ensures.ends)

pub returns-in-Commit-clause-taken : goal.returns-in-Commit-clause-taken
returns-in-Commit-clause-taken g c = as_act c.args.transaction.now c.commit.new.transaction (turn_of c.commit.result) acts.Commit c.args.act c.in-Commit.is c.commit.ensures.taken

pub returns-in-Put-clause-goes : goal.returns-in-Put-clause-goes
returns-in-Put-clause-goes g c = writes_goes _ g.met.P.Plans.lawful (λ trace. KnowsAsk trace c.args.out.now.line c.args.act (account_of c.args.transaction.now)) _ _ c.args.transaction.now c.put.new.self c.args.out.now c.put.new._out _ (notes_so c.args.out.now.line _ _ _ (ap (λ a. refusal a (account_of c.args.transaction.now)) c.in-Put.is ∙ sym (write_refused c.args.transaction.now OperationAfterCommitError))) (λ e. may_write_so (allows_data c.args.transaction.now.status) OperationAfterCommitError e) (λ d f. written_step c.in-Put.key (λ d. after_put (write_at d c.in-Put.key) c.in-Put.value) (put_call c.in-Put.key c.in-Put.value) d f)
    c.put.ensures.ends c.requires.idle c.put.ensures.gives_up c.put.ensures.quiet.0

pub returns-in-Insert-clause-goes : goal.returns-in-Insert-clause-goes
returns-in-Insert-clause-goes g c = writes_goes _ g.met.P.Plans.lawful (λ trace. KnowsAsk trace c.args.out.now.line c.args.act (account_of c.args.transaction.now)) _ _ c.args.transaction.now c.insert.new.self c.args.out.now c.insert.new._out _ (notes_so c.args.out.now.line _ _ _ (ap (λ a. refusal a (account_of c.args.transaction.now)) c.in-Insert.is ∙ sym (insert_refused c.args.transaction.now (is_none (known_value (known_at c.args.transaction.now.contents c.in-Insert.key))) OperationAfterCommitError DuplicateKeyInsertion))) (λ e. may_write (allows_data c.args.transaction.now.status) OperationAfterCommitError _ e) (λ d f. written_step c.in-Insert.key (λ d. after_insert (write_at d c.in-Insert.key) c.in-Insert.value) (insert_call c.in-Insert.key c.in-Insert.value) d f)
    c.insert.ensures.ends c.requires.idle c.insert.ensures.gives_up c.insert.ensures.quiet.0

pub returns-in-Delete-clause-goes : goal.returns-in-Delete-clause-goes
returns-in-Delete-clause-goes g c = writes_goes _ g.met.P.Plans.lawful (λ trace. KnowsAsk trace c.args.out.now.line c.args.act (account_of c.args.transaction.now)) _ _ c.args.transaction.now c.delete.new.self c.args.out.now c.delete.new._out _ (notes_so c.args.out.now.line _ _ _ (ap (λ a. refusal a (account_of c.args.transaction.now)) c.in-Delete.is ∙ sym (write_refused c.args.transaction.now OperationAfterCommitError))) (λ e. may_write_so (allows_data c.args.transaction.now.status) OperationAfterCommitError e) (λ d f. written_step c.in-Delete.key (λ d. after_delete d.is_pessimistic (write_at d c.in-Delete.key)) (delete_call c.in-Delete.key) d f)
    c.delete.ensures.ends c.requires.idle c.delete.ensures.gives_up c.delete.ensures.quiet.0

pub returns-in-Mutate-clause-goes : goal.returns-in-Mutate-clause-goes
returns-in-Mutate-clause-goes g c = writes_goes _ g.met.P.Plans.lawful (λ trace. KnowsAsk trace c.args.out.now.line c.args.act (account_of c.args.transaction.now)) _ _ c.args.transaction.now c.batch_mutate.new.self c.args.out.now c.batch_mutate.new._out _ (notes_so c.args.out.now.line _ _ _ (ap (λ a. refusal a (account_of c.args.transaction.now)) c.in-Mutate.is ∙ sym (ap (mutate_refusal c.args.transaction.now.status) c.into_vec.ensures ∙ mutate_refused c.args.transaction.now c.in-Mutate.mutations OperationAfterCommitError Unimplemented))) (λ e. may_write (allows_data c.args.transaction.now.status) OperationAfterCommitError _ e) (λ d f. mutated_steps _ d f)
    c.batch_mutate.ensures.ends c.requires.idle c.batch_mutate.ensures.gives_up c.batch_mutate.ensures.quiet.0

pub returns-in-Lock-clause-goes : goal.returns-in-Lock-clause-goes
returns-in-Lock-clause-goes g c = writes_goes _ g.met.P.Plans.lawful (λ trace. KnowsAsk trace c.args.out.now.line c.args.act (account_of c.args.transaction.now)) _ _ c.args.transaction.now c.lock_keys.new.self c.args.out.now c.lock_keys.new._out _ (notes_so c.args.out.now.line _ _ _ (ap (λ a. refusal a (account_of c.args.transaction.now)) c.in-Lock.is ∙ sym (write_refused c.args.transaction.now OperationAfterCommitError))) (λ e. may_write_so (allows_data c.args.transaction.now.status) OperationAfterCommitError e) (λ d f. locked_steps _ d f)
    c.lock_keys.ensures.ends c.requires.idle c.lock_keys.ensures.gives_up c.lock_keys.ensures.quiet.0

pub returns-in-Commit-clause-goes : goal.returns-in-Commit-clause-goes
returns-in-Commit-clause-goes g c = acts_as _ g.met.P.Plans.lawful c.args.act acts.Commit _ _ _ c.args.out.now.line (account_of c.args.transaction.now) c.args.transaction.now c.commit.new.transaction c.args.out.now c.commit.new.out (turn_of c.commit.result) c.in-Commit.is c.commit.ensures.goes

pub returns-in-Rollback-clause-taken : goal.returns-in-Rollback-clause-taken
returns-in-Rollback-clause-taken g c = as_act c.args.transaction.now c.roll_back.new.transaction (turn_of c.roll_back.result) acts.Rollback c.args.act c.in-Rollback.is c.roll_back.ensures.taken

pub returns-in-Rollback-clause-goes : goal.returns-in-Rollback-clause-goes
returns-in-Rollback-clause-goes g c = acts_as _ g.met.P.Plans.lawful c.args.act acts.Rollback _ _ _ c.args.out.now.line (account_of c.args.transaction.now) c.args.transaction.now c.roll_back.new.transaction c.args.out.now c.roll_back.new.out (turn_of c.roll_back.result) c.in-Rollback.is c.roll_back.ensures.goes

pub returns-in-Put-clause-moves : goal.returns-in-Put-clause-moves
returns-in-Put-clause-moves g c = writes_move _ c.args.act _ _ c.args.transaction.now c.put.new.self c.args.out.now c.put.new._out (turn_of c.put.result) (λ e. may_write_so (allows_data c.args.transaction.now.status) OperationAfterCommitError e) (λ e f. unless_refuses (allows_data c.args.transaction.now.status) OperationAfterCommitError e tt f) (λ d f. written_step c.in-Put.key (λ d. after_put (write_at d c.in-Put.key) c.in-Put.value) (put_call c.in-Put.key c.in-Put.value) d f) c.put.ensures.ends c.requires.idle c.put.ensures.gives_up c.put.ensures.quiet.0

pub returns-in-Insert-clause-moves : goal.returns-in-Insert-clause-moves
returns-in-Insert-clause-moves g c = writes_move _ c.args.act _ _ c.args.transaction.now c.insert.new.self c.args.out.now c.insert.new._out (turn_of c.insert.result) (λ e. may_write (allows_data c.args.transaction.now.status) OperationAfterCommitError _ e) (λ e f. or_refuses (refused_unless (allows_data c.args.transaction.now.status) OperationAfterCommitError) (refused_unless (is_none (known_value (known_at c.args.transaction.now.contents c.in-Insert.key))) DuplicateKeyInsertion) e (λ d g. unless_refuses (allows_data c.args.transaction.now.status) OperationAfterCommitError d tt g) (λ d g. unless_refuses (is_none (known_value (known_at c.args.transaction.now.contents c.in-Insert.key))) DuplicateKeyInsertion d tt g) f) (λ d f. written_step c.in-Insert.key (λ d. after_insert (write_at d c.in-Insert.key) c.in-Insert.value) (insert_call c.in-Insert.key c.in-Insert.value) d f) c.insert.ensures.ends c.requires.idle c.insert.ensures.gives_up c.insert.ensures.quiet.0

pub returns-in-Delete-clause-moves : goal.returns-in-Delete-clause-moves
returns-in-Delete-clause-moves g c = writes_move _ c.args.act _ _ c.args.transaction.now c.delete.new.self c.args.out.now c.delete.new._out (turn_of c.delete.result) (λ e. may_write_so (allows_data c.args.transaction.now.status) OperationAfterCommitError e) (λ e f. unless_refuses (allows_data c.args.transaction.now.status) OperationAfterCommitError e tt f) (λ d f. written_step c.in-Delete.key (λ d. after_delete d.is_pessimistic (write_at d c.in-Delete.key)) (delete_call c.in-Delete.key) d f) c.delete.ensures.ends c.requires.idle c.delete.ensures.gives_up c.delete.ensures.quiet.0

pub returns-in-Mutate-clause-moves : goal.returns-in-Mutate-clause-moves
returns-in-Mutate-clause-moves g c = writes_move _ c.args.act _ _ c.args.transaction.now c.batch_mutate.new.self c.args.out.now c.batch_mutate.new._out (turn_of c.batch_mutate.result) (λ e. may_write (allows_data c.args.transaction.now.status) OperationAfterCommitError _ e) (λ e f. or_refuses (refused_unless (allows_data c.args.transaction.now.status) OperationAfterCommitError) (refused_unless (all_put_or_delete c.into_vec.result.items) Unimplemented) e (λ d g. unless_refuses (allows_data c.args.transaction.now.status) OperationAfterCommitError d tt g) (λ d g. unless_refuses (all_put_or_delete c.into_vec.result.items) Unimplemented d tt g) f) (λ d f. mutated_steps _ d f) c.batch_mutate.ensures.ends c.requires.idle c.batch_mutate.ensures.gives_up c.batch_mutate.ensures.quiet.0

pub returns-in-Lock-clause-moves : goal.returns-in-Lock-clause-moves
returns-in-Lock-clause-moves g c = writes_move _ c.args.act _ _ c.args.transaction.now c.lock_keys.new.self c.args.out.now c.lock_keys.new._out (turn_of c.lock_keys.result) (λ e. may_write_so (allows_data c.args.transaction.now.status) OperationAfterCommitError e) (λ e f. unless_refuses (allows_data c.args.transaction.now.status) OperationAfterCommitError e tt f) (λ d f. locked_steps _ d f) c.lock_keys.ensures.ends c.requires.idle c.lock_keys.ensures.gives_up c.lock_keys.ensures.quiet.0

pub returns-in-Commit-clause-moves : goal.returns-in-Commit-clause-moves
returns-in-Commit-clause-moves g c = acts_move _ c.args.act acts.Commit c.args.transaction.now c.commit.new.transaction c.args.out.now c.commit.new.out (turn_of c.commit.result) c.in-Commit.is c.commit.ensures.moves

pub returns-in-Rollback-clause-moves : goal.returns-in-Rollback-clause-moves
returns-in-Rollback-clause-moves g c = acts_move _ c.args.act acts.Rollback c.args.transaction.now c.roll_back.new.transaction c.args.out.now c.roll_back.new.out (turn_of c.roll_back.result) c.in-Rollback.is c.roll_back.ensures.moves
