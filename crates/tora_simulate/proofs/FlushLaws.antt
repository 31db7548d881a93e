-- Runs whose output is flushed at the end.
use Rattle.std.proofs.Common.{◌≡◌, inl, inr, ℕ, Bool, true, false, List, Result, Ok, Err, refl, subst, sym}
use Rattle.std.specs.Prelude.{IfErr}
use Rattle.tora_lines.specs.Flushing.{after_flush}
use Rattle.tora_lines.specs.Reads.{Given, NoneFailed, AreToTheEnd, IsReadSo, IsUnwritten}
use Rattle.tora_lines.specs.declared.ended.Ended.{Ended}
use Rattle.tora_lines.specs.declared.ended.Ended.TheVariants.{Whole, Fault}
use Rattle.tora_lines.specs.declared.ended.ReplayError.{ReplayError}
use Rattle.tora_lines.specs.declared.ended.ReplayError.TheVariants.{Write}
use Rattle.tora_simulate.specs.Flushing.{IsFlushed}

none_failed : (reads : List Given) → AreToTheEnd reads → NoneFailed reads
none_failed reads h = subst NoneFailed (sym h.1) (tt, h.2)

module _ {R : Type 0} (did_read : R → Given → R → Type 0) (old new : R) where
  read_so_flushed : (ended : Result Ended ReplayError) (ok : Bool) → IsReadSo did_read old new ended
      → IsReadSo did_read old new (after_flush ok ended)
  read_so_flushed ended true h = h
  read_so_flushed (Ok Whole) false h = record { reads = h.reads; are = h.are; ends = none_failed h.reads h.ends }
  read_so_flushed (Ok (Fault n)) false h = record { reads = h.reads; are = h.are; ends = h.ends }
  read_so_flushed (Err error) false h = h

  pub reads_flushed : (ended result : Result Ended ReplayError) (ok : Bool) → IsReadSo did_read old new ended
      → result ≡ after_flush ok ended
      → IsReadSo did_read old new result
  reads_flushed ended result ok h is =
      subst (λ (e : Result Ended ReplayError). IsReadSo did_read old new e) (sym is) (read_so_flushed ended ok h)

module _ {W : Type 0} (did_write : W → List ℕ → Bool → W → Type 0) (did_flush : W → Bool → W → Type 0)
    (before new : W) where
  flushed_so : (ended : Result Ended ReplayError) (ok : Bool)
      → IfErr ended (λ e. e ≡ Write → IsUnwritten did_write before) → did_flush before ok new
      → IsFlushed did_write did_flush (after_flush ok ended) new
  flushed_so (Ok ended) true h call = record { before = before; ok = true; call = call; only = refl; failed = tt }
  flushed_so (Err error) true h call = record {
    before = before;
    ok = true;
    call = call;
    only = tt;
    failed = λ e. inr (h e);
  }
  flushed_so (Ok ended) false h call = record {
    before = before;
    ok = false;
    call = call;
    only = tt;
    failed = λ e. inl refl;
  }
  flushed_so (Err error) false h call = record {
    before = before;
    ok = false;
    call = call;
    only = tt;
    failed = λ e. inl refl;
  }

  pub is_flushed : (ended result : Result Ended ReplayError) (ok : Bool)
      → IfErr ended (λ e. e ≡ Write → IsUnwritten did_write before)
      → did_flush before ok new → result ≡ after_flush ok ended → IsFlushed did_write did_flush result new
  is_flushed ended result ok h call is =
      subst (λ (e : Result Ended ReplayError). IsFlushed did_write did_flush e new) (sym is)
      (flushed_so ended ok h call)
