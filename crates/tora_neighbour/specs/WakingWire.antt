-- What contracts see of a waking wire, and which calls of its socket each of its calls makes.
use Rattle.std.specs.Prelude.{◌≡◌, ◌≢◌, ◌⊎◌, ℕ, Bool, true, false, List, length, Option, Some, None, Result, Ok, Err}
use Rattle.std.specs.Prelude.{IsErr, MatchResult, MatchBool}
use Rattle.std.specs.declared.io.Error.{Error}
use Rattle.std.specs.declared.io.ErrorKind.{ErrorKind}
use Rattle.std.specs.declared.io.ErrorKind.TheVariants.{WouldBlock, Interrupted, HostUnreachable, NetworkUnreachable}
use Rattle.std.specs.declared.io.ErrorKind.TheVariants.{NetworkDown}
use Rattle.std.specs.declared.net.SocketAddr.{SocketAddr}
use Rattle.std.specs.IoError.{error_kind}
use Rattle.tora_neighbour.specs.declared.wire.WireError.{WireError}
use Rattle.tora_neighbour.specs.Datagrams.{failures_after}

-- its socket, the address to which it sends, whether a datagram may have come, and the count of failed calls
pub record WireView (S : Type 0) : Type 0 where
  pub socket : S
  pub remote : SocketAddr
  pub has_more : Bool
  pub failures : ℕ

-- a datagram that is not sent for this reason counts as lost in the network
abbrev pub IsLost : ErrorKind → Type 0
IsLost kind = (kind ≡ WouldBlock) ⊎ ((kind ≡ HostUnreachable) ⊎ ((kind ≡ NetworkUnreachable) ⊎ (kind ≡ NetworkDown)))

-- the result of a send of `size` bytes, from the result of the socket: success if all bytes were sent or the datagram
-- counts as lost
abbrev pub AnswersSend : Result ℕ Error → ℕ → Result (Unit {0}) WireError → Type 0
AnswersSend (Ok count) size (Ok _) = count ≡ size
AnswersSend (Ok count) size (Err _) = count ≢ size
AnswersSend (Err error) size (Ok _) = IsLost (error_kind error)
AnswersSend (Err error) size (Err _) = IsLost (error_kind error) → ⊥

-- one send of exactly these bytes to the remote address
abbrev pub SendsTo : {S : Type 0} → (S → List ℕ → SocketAddr → Result ℕ Error → S → Type 0) → WireView S → List ℕ
    → Result (Unit {0}) WireError → WireView S → Type 0
SendsTo did_send_to wire bytes answer after =
    (said : Result ℕ Error) × did_send_to wire.socket bytes wire.remote said after.socket
    × AnswersSend said (length bytes) answer
    × (after ≡ record wire { socket = after.socket; failures = failures_after answer wire.failures })

-- a receive that fails for this reason found no datagram, or was interrupted by a signal
abbrev pub IsVain : ErrorKind → Type 0
IsVain kind = (kind ≡ WouldBlock) ⊎ (kind ≡ Interrupted)

-- the result of a receive, from the result of the socket
abbrev pub AnswersReceive : Result (ℕ × SocketAddr) Error → Result (Option ℕ) WireError → Type 0
AnswersReceive (Ok came) answer = answer ≡ Ok (Some came.0)
AnswersReceive (Err error) (Ok answer) = IsVain (error_kind error) × (answer ≡ None)
AnswersReceive (Err error) (Err _) = IsVain (error_kind error) → ⊥

-- one receive of the socket; if it finds no datagram, the next receive of the wire waits first
abbrev pub Takes : {S : Type 0} → (S → List ℕ → Result (ℕ × SocketAddr) Error → List ℕ → S → Type 0) → WireView S
    → Result (Option ℕ) WireError → List ℕ → WireView S → Type 0
Takes did_receive_from wire answer new after =
    (buffer : List ℕ) × (said : Result (ℕ × SocketAddr) Error) × did_receive_from wire.socket buffer said new
    after.socket × AnswersReceive said answer
    × (after ≡ record wire {
      socket = after.socket;
      has_more = after.has_more;
      failures = failures_after answer wire.failures;
    })
    × MatchResult said (λ _. after.has_more ≡ wire.has_more) (λ error. (error_kind error ≡ WouldBlock
    → after.has_more ≡ false) × (error_kind error ≢ WouldBlock → after.has_more ≡ wire.has_more))

-- one wait, and then one receive if a datagram may have come
abbrev pub Waits : {S : Type 0} → (S → List ℕ → Result (ℕ × SocketAddr) Error → List ℕ → S → Type 0)
    → (S → Result Bool Error → S → Type 0) → WireView S → Result (Option ℕ) WireError → List ℕ → WireView S → Type 0
Waits {S = S} did_receive_from did_wait wire answer new after =
    (said : Result Bool Error) × (socket : S) × did_wait wire.socket said socket
    × MatchResult said
    (λ may. MatchBool may (Takes did_receive_from (record wire { socket = socket; has_more = true }) answer new after)
    ((answer ≡ Ok None) × (after ≡ record wire { socket = socket })))
    (λ _. IsErr answer × (after ≡ record wire { socket = socket; failures = failures_after answer wire.failures }))

-- one receive if a datagram may have come; a wait if none was expected or none was found
abbrev pub ReceivesFrom : {S : Type 0} → (S → List ℕ → Result (ℕ × SocketAddr) Error → List ℕ → S → Type 0)
    → (S → Result Bool Error → S → Type 0) → WireView S → Result (Option ℕ) WireError → List ℕ → WireView S → Type 0
ReceivesFrom {S = S} did_receive_from did_wait wire answer new after =
    MatchBool wire.has_more
    ((first : Result (Option ℕ) WireError) × (bytes : List ℕ) × (between : WireView S)
    × Takes did_receive_from wire first bytes between
    × MatchBool between.has_more ((answer ≡ first) × (new ≡ bytes)
    × (after ≡ between)) (Waits did_receive_from did_wait between answer new after))
    (Waits did_receive_from did_wait wire answer new after)
