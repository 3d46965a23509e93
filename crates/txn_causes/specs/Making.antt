-- How an error is shown to have its cause.
use Rattle.std.proofs.Common.{◌≡◌, ◌≢◌, ◌∙◌, inl, inr, List, [], ◌∷◌, ℕ, ap, refl, subst, sym}
use Rattle.txn_causes.specs.Causes.{AreSome, HasCause, HaveCauses, InternalCause, PlainCause}
use Rattle.txn_causes.specs.Heard.{Heard}
use Rattle.txn_history.specs.Among.{IsAmong}
use Rattle.txn_kv.specs.ErrorView.{listed, view_of, view_step, ErrorView}
use Rattle.txn_kv.specs.ErrorView.ErrorView.{plain}
use Rattle.txn_kv.specs.declared.errors.Error.TheFolds.{fold-roll-Error}
use Rattle.txn_kv.specs.declared.errors.Error.TheOpen as layer
use Rattle.txn_kv.specs.declared.errors.Error.TheVariants as errors
use Rattle.txn_kv.specs.declared.errors.Internal.{Internal}
use Rattle.txn_kv.specs.declared.ticket.Ticket.{Ticket}

-- Errors that hold no other

view-GrpcAPI : (t : Ticket) → view_of (errors.GrpcAPI t) ≡ plain (errors.GrpcAPI t)
view-GrpcAPI t = ap view_of (sym (errors.rolls-GrpcAPI t)) ∙ fold-roll-Error ErrorView view_step (layer.GrpcAPI t)

view-OutOfMemory : view_of errors.OutOfMemory ≡ plain errors.OutOfMemory
view-OutOfMemory = ap view_of (sym errors.rolls-OutOfMemory) ∙ fold-roll-Error ErrorView view_step layer.OutOfMemory

view-InternalError : (what : Internal) → view_of (errors.InternalError what) ≡ plain (errors.InternalError what)
view-InternalError what = ap view_of (sym (errors.rolls-InternalError what)) ∙ fold-roll-Error ErrorView view_step (layer.InternalError what)

view-RegionForKeyNotFound : (key : List ℕ) → view_of (errors.RegionForKeyNotFound key) ≡ plain (errors.RegionForKeyNotFound key)
view-RegionForKeyNotFound key = ap view_of (sym (errors.rolls-RegionForKeyNotFound key)) ∙ fold-roll-Error ErrorView view_step (layer.RegionForKeyNotFound key)

view-RegionNotFoundInResponse : (id : ℕ) → view_of (errors.RegionNotFoundInResponse id) ≡ plain (errors.RegionNotFoundInResponse id)
view-RegionNotFoundInResponse id = ap view_of (sym (errors.rolls-RegionNotFoundInResponse id)) ∙ fold-roll-Error ErrorView view_step (layer.RegionNotFoundInResponse id)

view-LeaderNotFound : (id : ℕ) → view_of (errors.LeaderNotFound id) ≡ plain (errors.LeaderNotFound id)
view-LeaderNotFound id = ap view_of (sym (errors.rolls-LeaderNotFound id)) ∙ fold-roll-Error ErrorView view_step (layer.LeaderNotFound id)

module _ (K : Heard → Type 0) (S : Type 0) where
  pub of_loss : (t : Ticket) → PlainCause K S (errors.GrpcAPI t) → HasCause K S (view_of (errors.GrpcAPI t))
  of_loss t k = subst (HasCause K S) (sym (view-GrpcAPI t)) k

  pub of_memory : HasCause K S (view_of errors.OutOfMemory)
  of_memory = subst (HasCause K S) (sym view-OutOfMemory) tt

  pub of_internal : (what : Internal) → InternalCause K what → HasCause K S (view_of (errors.InternalError what))
  of_internal what k = subst (HasCause K S) (sym (view-InternalError what)) k

  pub of_key : (key : List ℕ) → PlainCause K S (errors.RegionForKeyNotFound key) → HasCause K S (view_of (errors.RegionForKeyNotFound key))
  of_key key k = subst (HasCause K S) (sym (view-RegionForKeyNotFound key)) k

  pub of_region : (id : ℕ) → PlainCause K S (errors.RegionNotFoundInResponse id) → HasCause K S (view_of (errors.RegionNotFoundInResponse id))
  of_region id k = subst (HasCause K S) (sym (view-RegionNotFoundInResponse id)) k

  pub of_leader : (id : ℕ) → PlainCause K S (errors.LeaderNotFound id) → HasCause K S (view_of (errors.LeaderNotFound id))
  of_leader id k = subst (HasCause K S) (sym (view-LeaderNotFound id)) k

  -- Errors that hold others

  pub each_caused : (views : List ErrorView) → ((view : ErrorView) → IsAmong views view → HasCause K S view) → HaveCauses K S (listed views)
  each_caused [] causes = tt
  each_caused (view ∷ views) causes = (causes view (inl refl), each_caused views (λ other i. causes other (inr i)))

pub some_listed : (views : List ErrorView) → views ≢ [] → AreSome (listed views)
some_listed [] some = absurd (some refl)
some_listed (view ∷ views) some = tt
