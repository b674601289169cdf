-- No second answer fits a contract. Two results of a call that both meet it, for the same input, have the same answer and the same view, and are the
-- same value where the call refuses (or is stale). After an accepted call the raw values may differ, but only past a queue's length, which is no state.
-- Assumes nothing.
use Prim.Native.Nat.{ℕ}
use mathlib.Core.Path.{◌≡◌, sym, ◌∙◌}
use mathlib.Core.List.{List}
use Rattle.answers.specs.Answers.{Said, accepted, refused}
use Rattle.answers.specs.OneAnswer.{Agree, OneAnswer}
use Rattle.tracker.specs.declared.Tracker.{Tracker}
use Rattle.tracker.specs.State.{State, view}
use Rattle.tracker.specs.Outcome.{Met}
use Rattle.tracker.specs.Reserving.{said_reserve}
use Rattle.tracker.specs.Recording.{said_record}
use Rattle.tracker.specs.Finishing.{stale, said_finish}
use Rattle.tracker.specs.Draining.{said_drain}
use Rattle.tracker.specs.Clearing.{said_clear}
use Rattle.tracker.proofs.Sayings.{reserve_says, record_says, finish_says, checkpoint_says, drain_says, clear_says}
use Rattle.tracker.proofs.fresh.Kinds as fresh-kinds
use Rattle.tracker.proofs.fresh.Reads as fresh-call
use Rattle.tracker.proofs.is_sound.Kinds as is-sound-kinds
use Rattle.tracker.proofs.is_sound.Reads as is-sound-call
use Rattle.tracker.proofs.reserve.Kinds as reserve-kinds
use Rattle.tracker.proofs.reserve.Reads as reserve-call
use Rattle.tracker.proofs.record.Kinds as record-kinds
use Rattle.tracker.proofs.record.Reads as record-call
use Rattle.tracker.proofs.complete.Kinds as complete-kinds
use Rattle.tracker.proofs.complete.Reads as complete-call
use Rattle.tracker.proofs.abandon.Kinds as abandon-kinds
use Rattle.tracker.proofs.abandon.Reads as abandon-call
use Rattle.tracker.proofs.checkpoint.Kinds as checkpoint-kinds
use Rattle.tracker.proofs.checkpoint.Reads as checkpoint-call
use Rattle.tracker.proofs.drain.Kinds as drain-kinds
use Rattle.tracker.proofs.drain.Reads as drain-call
use Rattle.tracker.proofs.clear.Kinds as clear-kinds
use Rattle.tracker.proofs.clear.Reads as clear-call

-- two results: the same answer and view, and on a refusal the same value
pub record Same {A Answer : Type 0} (says : Answer → Said A) (x y : Answer) (u v : Tracker) : Type 0 where
  pub answers : x ≡ y
  pub views : view u ≡ view v
  pub refusals : (n : ℕ) (values : List ℕ) → says x ≡ refused n values → u ≡ v

same_by : {A Answer : Type 0} (says : Answer → Said A) → ((x y : Answer) → says x ≡ says y → x ≡ y)
    → {asked : Said A} {t : Tracker} {new : State} (x y : Answer) {u v : Tracker}
    → Met A asked (says x) t u new → Met A asked (says y) t v new → Same says x y u v
same_by says one x y a b = record {
  answers = one x y (a.answer ∙ sym b.answer);
  views = a.state ∙ sym b.state;
  refusals = λ n values e. a.untouched n values (sym a.answer ∙ e) ∙ sym (b.untouched n values (sym a.answer ∙ e));
}

pub fresh_only : Agree 0 fresh-kinds.ps fresh-kinds.r fresh-call.Post (λ κs u v x y. view u ≡ view v)
fresh_only κs args u v x y a b = a ∙ sym b

pub is_sound_only : OneAnswer 0 is-sound-kinds.ps is-sound-kinds.r is-sound-call.Post
is_sound_only κs args r s x y a b = a ∙ sym b

pub checkpoint_only : OneAnswer 0 checkpoint-kinds.ps checkpoint-kinds.r checkpoint-call.Post
checkpoint_only κs args r s x y a b = checkpoint_says r s (a ∙ sym b)

pub reserve_only : Agree 0 reserve-kinds.ps reserve-kinds.r reserve-call.Post (λ κs r q x y. Same said_reserve r.answer q.answer r.tracker q.tracker)
reserve_only κs args r q x y a b = same_by said_reserve reserve_says r.answer q.answer a b

pub record_only : Agree 0 record-kinds.ps record-kinds.r record-call.Post (λ κs r q x y. Same said_record r.answer q.answer r.tracker q.tracker)
record_only κs args r q x y a b = same_by said_record record_says r.answer q.answer a b

pub drain_only : Agree 0 drain-kinds.ps drain-kinds.r drain-call.Post (λ κs r q x y. Same said_drain r.answer q.answer r.tracker q.tracker)
drain_only κs args r q x y a b = same_by said_drain drain_says r.answer q.answer a b

pub clear_only : Agree 0 clear-kinds.ps clear-kinds.r clear-call.Post (λ κs r q x y. Same said_clear r.answer q.answer r.tracker q.tracker)
clear_only κs args r q x y a b = same_by said_clear clear_says r.answer q.answer a b

-- of complete and abandon: besides, where the call is stale, the same value
pub complete_only : Agree 0 complete-kinds.ps complete-kinds.r complete-call.Post (λ κs r q x y. Same said_finish r.answer q.answer r.tracker q.tracker × (said_finish r.answer ≡ accepted stale → r.tracker ≡ q.tracker))
complete_only κs args r q x y a b =
    (same_by said_finish finish_says r.answer q.answer a.met b.met, λ e. a.stale_untouched (sym a.met.answer ∙ e) ∙ sym (b.stale_untouched (sym a.met.answer ∙ e)))

pub abandon_only : Agree 0 abandon-kinds.ps abandon-kinds.r abandon-call.Post (λ κs r q x y. Same said_finish r.answer q.answer r.tracker q.tracker × (said_finish r.answer ≡ accepted stale → r.tracker ≡ q.tracker))
abandon_only κs args r q x y a b =
    (same_by said_finish finish_says r.answer q.answer a.met b.met, λ e. a.stale_untouched (sym a.met.answer ∙ e) ∙ sym (b.stale_untouched (sym a.met.answer ∙ e)))
