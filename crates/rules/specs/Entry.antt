-- The thirteen events, and how 40 bytes give one. (01, Twelve events; The journal; 02, ask 4)
-- Assumes nothing.
use Rattle.std.specs.Prelude.{ℕ, ◌+◌, ◌*◌, ◌≡◌, Bool, false, not, cond, ◌&&◌, ◌||◌, List, Option, [], ◌∷◌, leb, eqb, length, take, drop, get_or}
use Rattle.money.specs.Units.{fen, sheets, ticks}
use Rattle.money.specs.Causes.{Cause, ◌⇒◌, first_of, number_of}
use Rattle.rules.specs.declared.book.Posting.{Posting}
use Rattle.rules.specs.declared.trade.Terms.{Terms}
pub use Rattle.rules.specs.declared.event.Fields.{Fields}
pub use Rattle.rules.specs.declared.event.Account.{Account}
pub use Rattle.rules.specs.declared.event.Account.TheVariants.{Own, Client}
pub use Rattle.rules.specs.declared.event.Event.{Event}
pub use Rattle.rules.specs.declared.event.Event.TheVariants.{Open, FundIn, FundOut, Size, Rate, Pledge, Freeze, Withdraw, Initial, Early, Pay, Close, Post}
pub use Rattle.std.specs.Prelude.{Some, None}

-- what some bytes are: an event, or none
abbrev pub Entry : Type 0
Entry = Option Event

-- "all little-endian"
unfoldable pub little_endian : List ℕ → ℕ
little_endian [] = 0
little_endian (byte ∷ bytes) = byte + 256 * little_endian bytes

abbrev pub number_at : (from width : ℕ) → List ℕ → ℕ
number_at from width bytes = little_endian (take width (drop from bytes))

-- "Byte 0 code; 1 kind or account; 8 to 15 amount, rate or size; 16 to 23 contract; 24 to 27 price; 28 to 31 fallback price; 32 to 35 due
-- day; others 0." "product 0 to 15 (byte 1)"; "An initial trade's byte 2 is 0, or the product number plus 1." (02, ask 4)
abbrev pub fields_of : List ℕ → Fields
fields_of bytes = record {
  code = get_or bytes 0 0;
  kind = get_or bytes 1 0;
  product = get_or bytes 2 0;
  spare = number_at 3 5 bytes;
  amount = number_at 8 8 bytes;
  contract = number_at 16 8 bytes;
  price = number_at 24 4 bytes;
  fallback = number_at 28 4 bytes;
  due = number_at 32 4 bytes;
  last = number_at 36 4 bytes;
}

-- an event, where the fields that it does not use are 0: "unused field not 0" is number 2
unfoldable pub unless : Event → List ℕ → Entry
unless event [] = Some event
unless event (field ∷ unused) = cond (eqb field 0) (unless event unused) None

-- "fund events name an account (0 own, 1 client)"
abbrev pub account_at : ℕ → Option Account
account_at account = cond (eqb account 0) (Some Own) (cond (eqb account 1) (Some Client) None)

abbrev pub on_account : ℕ → (Account → Event) → List ℕ → Entry
on_account account event unused =
    cond (eqb account 0) (unless (event Own) unused) (cond (eqb account 1) (unless (event Client) unused) None)

-- all but code, kind and amount: what trades use, and what no event uses
abbrev pub rest_of : Fields → List ℕ
rest_of f = f.product ∷ f.spare ∷ f.contract ∷ f.price ∷ f.fallback ∷ f.due ∷ f.last ∷ []

abbrev pub terms_of : Fields → Terms
terms_of f = record {
  contract = record { 0 = f.contract };
  sheets = sheets f.amount;
  price = ticks f.price;
  fallback = ticks f.fallback;
  due = f.due;
  product = f.product;
}

-- "its term in days (amount, 1 to 365) and both prices"
abbrev pub posting_in : Fields → Posting
posting_in f = record { term = f.amount; price = ticks f.price; fallback = ticks f.fallback }

-- "Codes now run to 13" (02, ask 4), and any other is number 2; each code with the fields that it does not use
unfoldable pub entry_of : Fields → Entry
entry_of f =
    cond (eqb f.code 1) (unless Open (f.amount ∷ f.kind ∷ rest_of f))
    (cond (eqb f.code 2) (on_account f.kind (λ account. FundIn account (fen f.amount)) (rest_of f))
    (cond (eqb f.code 3) (on_account f.kind (λ account. FundOut account (fen f.amount)) (rest_of f))
    (cond (eqb f.code 4) (unless (Size (sheets f.amount)) (f.kind ∷ rest_of f))
    (cond (eqb f.code 5) (unless (Rate f.kind f.amount) (rest_of f))
    (cond (eqb f.code 6) (unless (Pledge f.kind f.amount) (rest_of f))
    (cond (eqb f.code 7) (unless (Freeze f.kind f.amount) (rest_of f))
    (cond (eqb f.code 8) (unless (Withdraw f.kind f.amount) (rest_of f))
    (cond (eqb f.code 9) (unless (Initial (terms_of f)) (f.kind ∷ f.spare ∷ f.last ∷ []))
    (cond (eqb f.code 10) (unless (Early (record { 0 = f.contract }) (sheets f.amount) (ticks f.price))
    (f.kind ∷ f.product ∷ f.spare ∷ f.fallback ∷ f.due ∷ f.last ∷ []))
    (cond (eqb f.code 11) (unless Pay (f.amount ∷ f.kind ∷ rest_of f))
    (cond (eqb f.code 12) (unless Close (f.amount ∷ f.kind ∷ rest_of f))
    (cond (eqb f.code 13) (unless (Post f.kind (posting_in f)) (f.product ∷ f.spare ∷ f.contract ∷ f.due ∷ f.last ∷ []))
    None))))))))))))

-- "events of 40 bytes"
abbrev pub event_bytes : ℕ
event_bytes = 40

unfoldable pub decoded : List ℕ → Entry
decoded bytes = cond (eqb (length bytes) event_bytes) (entry_of (fields_of bytes)) None

-- ---- the number of each case, and when it is given

-- a code that is none of the thirteen, "account not 0 or 1, unused field not 0" is 2; an event that is known is put to the book
abbrev pub entry_number : Entry → ℕ
entry_number (Some event) = 0
entry_number None = 2

abbrev pub among : (first last code : ℕ) → Bool
among first last code = leb first code && leb code last

-- a field that is not 0, though the event does not use it
abbrev pub strays : (used : Bool) → (field : ℕ) → Bool
strays used field = not used && not (eqb field 0)

-- each field by the codes that use it: Post uses kind, amount and both prices; no event uses the other bytes
unfoldable pub field_causes : Fields → List Cause
field_causes f =
    (not (among 1 13 f.code) ⇒ 2)
    ∷ (among 2 3 f.code && not (eqb f.kind 0 || eqb f.kind 1) ⇒ 2)
    ∷ (strays (among 2 10 f.code || eqb f.code 13) f.amount ⇒ 2)
    ∷ (strays (among 2 8 f.code && not (eqb f.code 4) || eqb f.code 13) f.kind ⇒ 2)
    ∷ (strays (eqb f.code 9) f.product ⇒ 2)
    ∷ (strays false f.spare ⇒ 2)
    ∷ (strays (among 9 10 f.code) f.contract ⇒ 2)
    ∷ (strays (among 9 10 f.code || eqb f.code 13) f.price ⇒ 2)
    ∷ (strays (eqb f.code 9 || eqb f.code 13) f.fallback ⇒ 2)
    ∷ (strays (eqb f.code 9) f.due ⇒ 2)
    ∷ (strays false f.last ⇒ 2)
    ∷ []

unfoldable pub decoding_causes : List ℕ → List Cause
decoding_causes bytes = (not (eqb (length bytes) event_bytes) ⇒ 2) ∷ field_causes (fields_of bytes)

-- what is promised of bytes that are decoded: which entry they are, and its number
abbrev pub IsEntryOf : List ℕ → Entry → Type 0
IsEntryOf bytes entry = (entry ≡ decoded bytes) × (entry_number entry ≡ number_of (first_of (decoding_causes bytes)))

-- an event's code, 0 for what does not decode
abbrev pub code_of : Entry → ℕ
code_of (Some Open) = 1
code_of (Some (FundIn account amount)) = 2
code_of (Some (FundOut account amount)) = 3
code_of (Some (Size size)) = 4
code_of (Some (Rate kind rate)) = 5
code_of (Some (Pledge kind units)) = 6
code_of (Some (Freeze kind units)) = 7
code_of (Some (Withdraw kind units)) = 8
code_of (Some (Initial terms)) = 9
code_of (Some (Early contract count price)) = 10
code_of (Some Pay) = 11
code_of (Some Close) = 12
code_of (Some (Post product posting)) = 13
code_of None = 0
