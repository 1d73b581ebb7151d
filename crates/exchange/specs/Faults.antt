-- Every rule's number and layer, and the line that tells a fault.
-- Assumes nothing.
use Rattle.std.specs.Prelude.{ℕ, List, ◌++◌, codes, decimal}
use Rattle.exchange.specs.declared.fault.Layer.{Layer}
use Rattle.exchange.specs.declared.fault.Layer.TheVariants.{Reader, Search, Stock, Host, Writer, Ring, Sink}
use Rattle.exchange.specs.declared.fault.Rule.{Rule}
use Rattle.exchange.specs.declared.fault.Rule.TheVariants.{BookTooShort, BookTooLarge, WrongOffset, WrongLength, WrongRowNumber, UnknownBoat, OwnBoat, RepeatedWish, WrongBound, WrongStockLength, UnknownKind, NoSuchBoat, TooManyWishes, WrongRingLength, RepeatedBoat, LowerBoat, LimitTooLarge, BufferTooShort, TooFewNumbers, TooManyLines, Full, End, NoLatestRing}
use Rattle.exchange.specs.declared.fault.Fault.{Fault}
use Rattle.exchange.specs.declared.fault.Fault.TheVariants.{Refused, Memory}

abbrev pub number_of : Rule → ℕ
number_of BookTooShort = 1
number_of BookTooLarge = 2
number_of WrongOffset = 3
number_of WrongLength = 4
number_of WrongRowNumber = 5
number_of UnknownBoat = 6
number_of OwnBoat = 7
number_of RepeatedWish = 8
number_of WrongBound = 9
number_of WrongStockLength = 10
number_of UnknownKind = 11
number_of NoSuchBoat = 12
number_of TooManyWishes = 13
number_of WrongRingLength = 14
number_of RepeatedBoat = 15
number_of LowerBoat = 16
number_of LimitTooLarge = 17
number_of BufferTooShort = 18
number_of TooFewNumbers = 19
number_of TooManyLines = 20
number_of Full = 21
number_of End = 22
number_of NoLatestRing = 23

abbrev pub layer_of : Rule → Layer
layer_of BookTooShort = Reader
layer_of BookTooLarge = Reader
layer_of WrongOffset = Reader
layer_of WrongLength = Reader
layer_of WrongRowNumber = Reader
layer_of UnknownBoat = Reader
layer_of OwnBoat = Reader
layer_of RepeatedWish = Reader
layer_of WrongBound = Search
layer_of WrongStockLength = Stock
layer_of UnknownKind = Stock
layer_of NoSuchBoat = Host
layer_of TooManyWishes = Writer
layer_of WrongRingLength = Ring
layer_of RepeatedBoat = Ring
layer_of LowerBoat = Ring
layer_of LimitTooLarge = Sink
layer_of BufferTooShort = Writer
layer_of TooFewNumbers = Sink
layer_of TooManyLines = Writer
layer_of Full = Sink
layer_of End = Search
layer_of NoLatestRing = Sink

abbrev pub layer_name : Layer → List ℕ
layer_name Reader = codes "reader"
layer_name Search = codes "search"
layer_name Stock = codes "stock"
layer_name Host = codes "host"
layer_name Writer = codes "writer"
layer_name Ring = codes "ring"
layer_name Sink = codes "sink"

-- `fault reader 4 28`: the layer, the number and the place; want of memory has no number and no place
abbrev pub fault_text : Fault → List ℕ
fault_text (Refused rule place) =
    codes "fault " ++ (layer_name (layer_of rule) ++ (codes " " ++ (decimal (number_of rule) ++ (codes " " ++ decimal place))))
fault_text Memory = codes "fault memory"
