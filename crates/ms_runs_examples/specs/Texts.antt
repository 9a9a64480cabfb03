-- Texts of the example modules, and of what the grammar refuses.
use Rattle.std.specs.Prelude.{ℕ, zero, suc, List, [], ◌∷◌, ◌++◌, codes, map}
use Rattle.ms_lex.specs.Tokens.{Text}

-- each line, and a newline after it
abbrev pub lines : List Text → Text
lines [] = []
lines (line ∷ rest) = line ++ 10 ∷ lines rest

-- a text so many times
abbrev pub times : ℕ → Text → Text
times zero text = []
times (suc n) text = text ++ times n text

-- a function without parameters and without a result, with these lines
abbrev pub in_function : Text → Text
in_function text = codes "define void @f() { " ++ text ++ codes " ret void }"

-- every word that the grammar has at a place of its own, and that is no attribute
abbrev pub quoted_words : List Text
quoted_words =
    codes "source_filename" ∷ codes "target" ∷ codes "datalayout" ∷ codes "triple" ∷ codes "attributes" ∷ codes "distinct" ∷ codes "type"
    ∷ codes "global" ∷ codes "constant" ∷ codes "declare" ∷ codes "define" ∷ codes "void" ∷ codes "ptr" ∷ codes "x" ∷ codes "to" ∷ codes "label"
    ∷ codes "zeroinitializer" ∷ codes "true" ∷ codes "false" ∷ codes "null" ∷ codes "undef" ∷ codes "poison" ∷ codes "getelementptr" ∷ codes "phi"
    ∷ codes "icmp" ∷ codes "samesign" ∷ codes "select" ∷ codes "i1" ∷ codes "freeze" ∷ codes "alloca" ∷ codes "load" ∷ codes "store" ∷ codes "tail"
    ∷ codes "musttail" ∷ codes "notail" ∷ codes "call" ∷ codes "br" ∷ codes "switch" ∷ codes "ret" ∷ codes "unreachable" ∷ codes "add" ∷ codes "sub"
    ∷ codes "mul" ∷ codes "udiv" ∷ codes "sdiv" ∷ codes "urem" ∷ codes "srem" ∷ codes "shl" ∷ codes "lshr" ∷ codes "ashr" ∷ codes "and" ∷ codes "or"
    ∷ codes "xor" ∷ codes "trunc" ∷ codes "zext" ∷ codes "sext" ∷ codes "ptrtoint" ∷ codes "inttoptr" ∷ codes "bitcast" ∷ []

-- the word at the end of the head of a function
abbrev pub at_head : Text → Text
at_head word = codes "define void @f() " ++ word

-- the words of operations, and of `icmp`, each with what stands after its flags
abbrev pub operations : List (Text × Text)
operations =
    map (λ word. (word, codes " i8 1, 1")) (
    codes "add" ∷ codes "sub" ∷ codes "mul" ∷ codes "shl" ∷ codes "lshr" ∷ codes "ashr" ∷ codes "and" ∷ codes "or" ∷ codes "xor" ∷ codes "udiv"
    ∷ codes "sdiv" ∷ codes "urem" ∷ codes "srem" ∷ [])
    ++ map (λ word. (word, codes " i8 1 to i8")) (
    codes "trunc" ∷ codes "zext" ∷ codes "sext" ∷ codes "ptrtoint" ∷ codes "inttoptr" ∷ codes "bitcast" ∷ [])
    ++ (codes "icmp", codes " eq i8 1, 1") ∷ []

-- an operation with a flag
abbrev pub flagged : Text → Text × Text → Text
flagged flag o = in_function (codes "%1 = " ++ o.0 ++ codes " " ++ flag ++ o.1)

-- `main` returns 0
abbrev pub returns_zero_text : Text
returns_zero_text =
    lines (
    codes "define i32 @main() {"
    ∷ codes "  ret i32 0"
    ∷ codes "}"
    ∷ [])

-- an unset word is compared with 0 and branched on
abbrev pub branch_on_unset_text : Text
branch_on_unset_text =
    lines (
    codes "define i32 @main() {"
    ∷ codes "  %1 = alloca i32"
    ∷ codes "  %2 = load i32, ptr %1"
    ∷ codes "  %3 = icmp eq i32 %2, 0"
    ∷ codes "  br i1 %3, label %4, label %5"
    ∷ codes "4:"
    ∷ codes "  ret i32 0"
    ∷ codes "5:"
    ∷ codes "  ret i32 1"
    ∷ codes "}"
    ∷ [])

-- an unset word is and-ed with 0 and then branched on
abbrev pub masked_to_zero_text : Text
masked_to_zero_text =
    lines (
    codes "define i32 @main() {"
    ∷ codes "  %1 = alloca i32"
    ∷ codes "  %2 = load i32, ptr %1"
    ∷ codes "  %3 = and i32 %2, 0"
    ∷ codes "  %4 = icmp eq i32 %3, 0"
    ∷ codes "  br i1 %4, label %5, label %6"
    ∷ codes "5:"
    ∷ codes "  ret i32 0"
    ∷ codes "6:"
    ∷ codes "  ret i32 1"
    ∷ codes "}"
    ∷ [])

-- a word of which four bits are undefined is compared with 16
abbrev pub ordered_compare_text : Text
ordered_compare_text =
    lines (
    codes "define i32 @main() {"
    ∷ codes "  %1 = and i8 undef, 15"
    ∷ codes "  %2 = or i8 %1, 32"
    ∷ codes "  %3 = icmp ult i8 %2, 16"
    ∷ codes "  br i1 %3, label %4, label %5"
    ∷ codes "4:"
    ∷ codes "  ret i32 0"
    ∷ codes "5:"
    ∷ codes "  ret i32 1"
    ∷ codes "}"
    ∷ [])

-- an undefined condition selects one of two words
abbrev pub select_undef_text : Text
select_undef_text =
    lines (
    codes "define i32 @main() {"
    ∷ codes "  %1 = select i1 undef, i32 6, i32 4"
    ∷ codes "  ret i32 %1"
    ∷ codes "}"
    ∷ [])

-- two bytes among eight unset ones
abbrev pub shared_cell_text : Text
shared_cell_text =
    lines (
    codes "define i32 @main() {"
    ∷ codes "  %1 = alloca [8 x i8]"
    ∷ codes "  %2 = and i16 undef, -256"
    ∷ codes "  %3 = getelementptr i8, ptr %1, i64 3"
    ∷ codes "  store i16 %2, ptr %3"
    ∷ codes "  %4 = load i8, ptr %1"
    ∷ codes "  %5 = zext i8 %4 to i32"
    ∷ codes "  %6 = call i32 @putchar(i32 %5)"
    ∷ codes "  %7 = getelementptr i8, ptr %1, i64 4"
    ∷ codes "  %8 = load i8, ptr %7"
    ∷ codes "  %9 = zext i8 %8 to i32"
    ∷ codes "  %10 = call i32 @putchar(i32 %9)"
    ∷ codes "  %11 = load i8, ptr %3"
    ∷ codes "  %12 = zext i8 %11 to i32"
    ∷ codes "  %13 = call i32 @putchar(i32 %12)"
    ∷ codes "  ret i32 0"
    ∷ codes "}"
    ∷ codes "declare i32 @putchar(i32)"
    ∷ [])

-- an addition carries an undefined bit up
abbrev pub lost_in_addition_text : Text
lost_in_addition_text =
    lines (
    codes "define i32 @main() {"
    ∷ codes "  %1 = and i32 undef, 1"
    ∷ codes "  %2 = add i32 %1, 1"
    ∷ codes "  %3 = lshr i32 %2, 1"
    ∷ codes "  %4 = icmp eq i32 %3, 0"
    ∷ codes "  br i1 %4, label %5, label %7"
    ∷ codes "5:"
    ∷ codes "  %6 = call i32 @putchar(i32 65)"
    ∷ codes "  ret i32 0"
    ∷ codes "7:"
    ∷ codes "  %8 = call i32 @putchar(i32 66)"
    ∷ codes "  ret i32 0"
    ∷ codes "}"
    ∷ codes "declare i32 @putchar(i32)"
    ∷ [])

-- a function that calls itself
abbrev pub recursion_text : Text
recursion_text =
    lines (
    codes "define i32 @f(i32 %0) {"
    ∷ codes "  %2 = icmp eq i32 %0, 1"
    ∷ codes "  br i1 %2, label %3, label %4"
    ∷ codes "3:"
    ∷ codes "  ret i32 7"
    ∷ codes "4:"
    ∷ codes "  %5 = sub i32 %0, 1"
    ∷ codes "  %6 = call i32 @f(i32 %5)"
    ∷ codes "  ret i32 %6"
    ∷ codes "}"
    ∷ codes "define i32 @main() {"
    ∷ codes "  %1 = call i32 @f(i32 1023)"
    ∷ codes "  ret i32 %1"
    ∷ codes "}"
    ∷ [])

-- a third argument is returned
abbrev pub nested_call_text : Text
nested_call_text =
    lines (
    codes "define i32 @g(i32 %0, i32 %1, i32 %2) {"
    ∷ codes "  ret i32 %2"
    ∷ codes "}"
    ∷ codes "define i32 @main() {"
    ∷ codes "  %1 = call i32 @g(i32 1, i32 2, i32 undef)"
    ∷ codes "  %2 = call i32 @g(i32 3, i32 4, i32 5)"
    ∷ codes "  ret i32 %1"
    ∷ codes "}"
    ∷ [])

-- four bytes are written, of which one is unset
abbrev pub write_with_gap_text : Text
write_with_gap_text =
    lines (
    codes "define i32 @main() {"
    ∷ codes "  %1 = alloca [4 x i8]"
    ∷ codes "  %2 = call i32 @putchar(i32 62)"
    ∷ codes "  %3 = call ptr @memset(ptr %1, i32 65, i64 2)"
    ∷ codes "  %4 = getelementptr i8, ptr %1, i64 3"
    ∷ codes "  store i8 66, ptr %4"
    ∷ codes "  %5 = call i64 @write(i32 1, ptr %1, i64 4)"
    ∷ codes "  ret i32 0"
    ∷ codes "}"
    ∷ codes "declare i32 @putchar(i32)"
    ∷ codes "declare ptr @memset(ptr, i32, i64)"
    ∷ codes "declare i64 @write(i32, ptr, i64)"
    ∷ [])

-- a store to an address that is computed
abbrev pub store_to_shadow_text : Text
store_to_shadow_text =
    lines (
    codes "define i32 @main() {"
    ∷ codes "  %1 = alloca i32"
    ∷ codes "  %2 = ptrtoint ptr %1 to i64"
    ∷ codes "  %3 = xor i64 %2, 87960930222080"
    ∷ codes "  %4 = inttoptr i64 %3 to ptr"
    ∷ codes "  store i32 1, ptr %4"
    ∷ codes "  ret i32 0"
    ∷ codes "}"
    ∷ [])

-- the text of an ordinary compiler, by the first line of its function and the declaration of `malloc`
abbrev pub clang_text : Text → Text → Text
clang_text head declared =
    lines (
    codes "; ModuleID = 'a.c'"
    ∷ codes "source_filename = \"a.c\""
    ∷ codes "target triple = \"x86_64-unknown-linux-gnu\""
    ∷ codes "@.str = private unnamed_addr constant [3 x i8] c\"ok\\00\", align 1"
    ∷ codes "; Function Attrs: noinline nounwind optnone uwtable"
    ∷ head
    ∷ codes "  %1 = alloca i32, align 4"
    ∷ codes "  %2 = alloca ptr, align 8"
    ∷ codes "  %3 = alloca i32, align 4"
    ∷ codes "  store i32 0, ptr %1, align 4"
    ∷ codes "  %4 = call noalias ptr @malloc(i64 noundef 16) #3"
    ∷ codes "  store ptr %4, ptr %2, align 8"
    ∷ codes "  store i32 0, ptr %3, align 4"
    ∷ codes "  br label %5"
    ∷ codes ""
    ∷ codes "5:                                                ; preds = %14, %0"
    ∷ codes "  %6 = load i32, ptr %3, align 4"
    ∷ codes "  %7 = icmp slt i32 %6, 4"
    ∷ codes "  br i1 %7, label %8, label %17"
    ∷ codes ""
    ∷ codes "8:                                                ; preds = %5"
    ∷ codes "  %9 = load i32, ptr %3, align 4"
    ∷ codes "  %10 = load ptr, ptr %2, align 8"
    ∷ codes "  %11 = load i32, ptr %3, align 4"
    ∷ codes "  %12 = sext i32 %11 to i64"
    ∷ codes "  %13 = getelementptr inbounds i32, ptr %10, i64 %12"
    ∷ codes "  store i32 %9, ptr %13, align 4"
    ∷ codes "  br label %14"
    ∷ codes ""
    ∷ codes "14:                                               ; preds = %8"
    ∷ codes "  %15 = load i32, ptr %3, align 4"
    ∷ codes "  %16 = add nsw i32 %15, 1"
    ∷ codes "  store i32 %16, ptr %3, align 4"
    ∷ codes "  br label %5, !llvm.loop !6"
    ∷ codes ""
    ∷ codes "17:                                               ; preds = %5"
    ∷ codes "  %18 = load ptr, ptr %2, align 8"
    ∷ codes "  %19 = getelementptr inbounds i32, ptr %18, i64 3"
    ∷ codes "  %20 = load i32, ptr %19, align 4"
    ∷ codes "  %21 = icmp eq i32 %20, 3"
    ∷ codes "  br i1 %21, label %22, label %24"
    ∷ codes ""
    ∷ codes "22:                                               ; preds = %17"
    ∷ codes "  %23 = call i32 @puts(ptr noundef @.str)"
    ∷ codes "  br label %24"
    ∷ codes ""
    ∷ codes "24:                                               ; preds = %22, %17"
    ∷ codes "  %25 = load ptr, ptr %2, align 8"
    ∷ codes "  call void @free(ptr noundef %25) #4"
    ∷ codes "  ret i32 0"
    ∷ codes "}"
    ∷ declared
    ∷ codes "declare i32 @puts(ptr noundef) #2"
    ∷ codes "declare void @free(ptr noundef) #1"
    ∷ codes "attributes #0 = { noinline nounwind optnone uwtable \"frame-pointer\"=\"all\" }"
    ∷ codes "!llvm.module.flags = !{!0}"
    ∷ codes "!0 = !{i32 1, !\"wchar_size\", i32 4}"
    ∷ codes "!6 = distinct !{!6, !7}"
    ∷ codes "!7 = !{!\"llvm.loop.mustprogress\"}"
    ∷ [])

-- the text as the compiler writes it
abbrev pub clang_unoptimised_text : Text
clang_unoptimised_text = clang_text (codes "define dso_local i32 @main() #0 {") (codes "declare noalias ptr @malloc(i64 noundef) #1")

-- the same with debug metadata attached
abbrev pub clang_debug_text : Text
clang_debug_text = clang_text (codes "define dso_local i32 @main() #0 !dbg !6 {") (codes "declare !dbg !6 noalias ptr @malloc(i64 noundef) #1")
