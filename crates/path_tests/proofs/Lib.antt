mod Else
