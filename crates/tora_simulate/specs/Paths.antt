-- Reading a file by its path.
use Rattle.std.specs.Prelude.{◌≡◌, ◌≢◌, ◌⊎◌, ℕ, List, Option, Result, Ok, Err, IfSome}
use Rattle.std.specs.IoError.{error_kind}
use Rattle.std.specs.declared.io.Error.{Error}
use Rattle.std.specs.declared.io.ErrorKind.TheVariants.{OutOfMemory}

-- The file at a path was opened, and reading it to its end gave these bytes.
pub record IsRead {R : Type 0} (opened : Result R Error → Type 0) (did_read : R → Result (List ℕ) Error
    → Type 0) (remaining : R → Option (List ℕ)) (bytes : List ℕ) : Type 0 where
  pub reader : R
  pub opens : opened (Ok reader)
  pub reads : did_read reader (Ok bytes)
  pub whole : IfSome (remaining reader) (λ input. bytes ≡ input)

-- Opening the file at a path gave this error, or reading it did.
abbrev pub IsUnread : {R : Type 0} → (Result R Error → Type 0) → (R → Result (List ℕ) Error → Type 0) → Error → Type 0
IsUnread {R} opened did_read error = opened (Err error) ⊎ ((reader : R) × opened (Ok reader)
    × did_read reader (Err error))

-- the status for an error of a file: 5 if memory ran out, otherwise 1
pub record IsStatusOfError (error : Error) (status : ℕ) : Type 0 where
  pub memory : error_kind error ≡ OutOfMemory → status ≡ 5
  pub other : error_kind error ≢ OutOfMemory → status ≡ 1

-- A call gave an error, and the status is that of the error.
pub record IsFailed (gave : Error → Type 0) (status : ℕ) : Type 0 where
  pub error : Error
  pub cause : gave error
  pub status_is : IsStatusOfError error status
